-- Declarators in front of a body that declares nothing: they are cells that are undefined, and do nothing when they run.
use Rattle.std.proofs.Common.{◌≡◌, refl, sym, ◌∙◌, ap, List, [], ◌∷◌, ◌++◌, map}
use Rattle.std.specs.Prelude.{Bool, true, false, ◌||◌, Some, bytes_eq, codes, if◌then◌else◌}
use Rattle.std.specs.List.{list_any}
use Rattle.es_tree.specs.Words.{Text}
use Rattle.es_tree.specs.Tree.{Tree, node, Label, done, ◌then◌, many, statements, Trees, trees}
use Rattle.es_tree.specs.declared.ast_type.AstType.TheVariants.{Program, VariableDeclaration}
use Rattle.es_runs.specs.Machine.Stop.{unknown}
use Rattle.es_runs.specs.Machine.{stop, Value, Move, State, Cell, Result}
use Rattle.es_runs.specs.Machine.Value.{undefined}
use Rattle.es_runs.specs.Machine.State.{state}
use Rattle.es_runs.specs.Machine.Cell.{holds}
use Rattle.es_runs.specs.Machine.Result.{gives}
use Rattle.es_runs.specs.Core.{World, Binding, value, meaning, meanings, declared}
use Rattle.es_runs.specs.Core.Binding.{changeable}
use Rattle.es_tree.specs.Scopes.{Declared, declared_names}
use Rattle.es_runs.specs.Runs.{made, scope_of, cells_of, run_where}
use Rattle.es_runs.specs.Rules.{pending}
use Rattle.es_runs.specs.Open.{Pending, declarator_node, written}

-- the declarators of these names are pending, the first of them the longest
abbrev pub all_pending : List Text → List Declared → List Declared
all_pending [] ds = ds
all_pending (x ∷ xs) ds = all_pending xs (pending x ds)

abbrev pub declarator_nodes : List Text → Trees
declarator_nodes xs = trees (map declarator_node xs)

-- `var` declarators of these names are pending
abbrev pub plain : List Text → Pending
plain xs = record { vars = map declarator_node xs; lets = [] }

abbrev pub vars : List Text → List Declared
vars xs = declared_names (codes "var") (declarator_nodes xs)

abbrev pub one_of : List Text → Text → Bool
one_of xs y = list_any (λ x. bytes_eq y x) xs

first_or : {A : Type 0} (a b : Bool) (c d : A) → (if b then c else (if a then c else d)) ≡ (if a || b then c else d)
first_or true true c d = refl
first_or true false c d = refl
first_or false true c d = refl
first_or false false c d = refl

or_later : {A : Type 0} (a b : Bool) (c d : A) → (if a then c else (if b then c else d)) ≡ (if a || b then c else d)
or_later true b c d = refl
or_later false b c d = refl

pub scope_of-all_pending : (xs : List Text) (ds : List Declared) (y : Text) → scope_of (all_pending xs ds) y ≡ (if one_of xs y then changeable else scope_of ds y)
scope_of-all_pending [] ds y = refl
scope_of-all_pending (x ∷ xs) ds y = scope_of-all_pending xs (pending x ds) y ∙ first_or (bytes_eq y x) (one_of xs y) changeable (scope_of ds y)

pub scope_of-vars : (xs : List Text) (ds : List Declared) (y : Text) → scope_of (vars xs ++ ds) y ≡ (if one_of xs y then changeable else scope_of ds y)
scope_of-vars [] ds y = refl
scope_of-vars (x ∷ xs) ds y = ap (λ (b : Binding). if bytes_eq y x then changeable else b) (scope_of-vars xs ds y) ∙ or_later (bytes_eq y x) (one_of xs y) changeable (scope_of ds y)

pub cells_of-all_pending : (xs : List Text) (ds : List Declared) (y : Text) → cells_of (all_pending xs ds) y ≡ (if one_of xs y then holds undefined else cells_of ds y)
cells_of-all_pending [] ds y = refl
cells_of-all_pending (x ∷ xs) ds y = cells_of-all_pending xs (pending x ds) y ∙ first_or (bytes_eq y x) (one_of xs y) (holds undefined) (cells_of ds y)

cells_of-vars : (xs : List Text) (ds : List Declared) (y : Text) → cells_of (vars xs ++ ds) y ≡ (if one_of xs y then holds undefined else cells_of ds y)
cells_of-vars [] ds y = refl
cells_of-vars (x ∷ xs) ds y = ap (λ (b : Cell). if bytes_eq y x then holds undefined else b) (cells_of-vars xs ds y) ∙ or_later (bytes_eq y x) (one_of xs y) (holds undefined) (cells_of ds y)

-- a run depends on the declared names by their bindings and cells alone
same_names : (loose : Bool) (ds es : List Declared) (p : Tree) (this : Value) (moves : List Move) → ((y : Text) → scope_of es y ≡ scope_of ds y) → ((y : Text) → cells_of es y ≡ cells_of ds y) → run_where loose es p this moves ≡ run_where loose ds p this moves
same_names loose ds es p this moves h g =
    let after : (Text → Binding) → (Text → Cell) → Result Value = λ scope cells. let w : World = record { scope = scope; this = this; counts_all = loose; other = λ t. stop unknown; spreads = false } in value w (meaning w p) (state cells moves []) in
    λ i. after (λ y. h y i) (λ y. g y i)

pub pending_vars : (loose : Bool) (xs : List Text) (ds : List Declared) (p : Tree) (this : Value) (moves : List Move) → run_where loose (vars xs ++ ds) p this moves ≡ run_where loose (all_pending xs ds) p this moves
pending_vars loose xs ds p this moves =
    same_names loose (all_pending xs ds) (vars xs ++ ds) p this moves
    (λ y. scope_of-vars xs ds y ∙ sym (scope_of-all_pending xs ds y))
    (λ y. cells_of-vars xs ds y ∙ sym (cells_of-all_pending xs ds y))

declares_nothing : (w : World) (xs : List Text) (s : State) → declared false (meanings w (declarator_nodes xs)) s ≡ gives undefined s
declares_nothing w [] s = refl
declares_nothing w (x ∷ xs) s = declares_nothing w xs s

var_runs : (w : World) (xs : List Text) (s : State) → value w (meaning w (node VariableDeclaration (made (Some (codes "var") ∷ []) []) (many (declarator_nodes xs) then done))) s ≡ gives undefined s
var_runs w xs s = rw (declares_nothing w xs s)

-- the program with the declarators in front runs as the program
pub written_runs : (w : World) (xs : List Text) (l : Label) (ds body : Trees) (s : State) → value w (meaning w (node Program l (many ds then (statements (written (plain xs) body) then done)))) s ≡ value w (meaning w (node Program l (many ds then (statements body then done)))) s
written_runs w [] l ds body s = refl
written_runs w (x ∷ xs) l ds body s = rw (var_runs w (x ∷ xs) s)
