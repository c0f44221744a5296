-- Steps of rules at places of open programs.
use Rattle.std.specs.Prelude.{◌≡◌, ℕ, zero, suc, List, [], ◌∷◌, ◌&&◌, ◌||◌, not, Bool, true, false, Option}
use Rattle.es_tree.specs.Words.{Text}
use Rattle.es_tree.specs.Ancestors.{Ancestor, ancestor, leads_by, stands_in}
use Rattle.es_tree.specs.declared.ast_type.AstType.{AstType}
use Rattle.es_tree.specs.declared.ast_type.AstType.TheVariants.{ArrowFunctionExpression, FunctionBody, Program, StaticBlock}
use Rattle.es_tree.specs.Tree.{Tree, Trees, Label, Fields, done, ◌then◌, missing, one, many, statements, empty, ◌before◌, kind_of}
use Rattle.es_runs.specs.Alike.{Need, needs, all_of_it}
use Rattle.es_semantic.specs.RolesOf.{reads, role_at}
use Rattle.es_semantic.specs.declared.place.Role.{Role}
use Rattle.es_resolution.specs.Declarations.{Bound, declared, is_var_scope}
use Rattle.es_steps.specs.Nodes.{made, word, return_node}
use Rattle.es_resolution.specs.Resolved.{Place, no_name, nowhere, place_in}
use Rattle.es_steps.specs.Open.{is_import, written, Pending, Additions, Open, open_node, OpenFields, ends, ◌and◌, OpenField, gap, child, body, children, list, OpenTrees, ◌next◌, flanked, opened, opened_trees, finished, finished_fields, followed_by}

-- What is known of the whole: the names in use, the symbols of the source that nothing writes, the next free symbol, the name of
-- each symbol, and the made names with their symbols, in the order made.
pub record Whole : Type 0 where
  pub in_use : Text → Bool
  pub steady : ℕ → Bool
  pub free_symbol : ℕ
  pub called : ℕ → Text
  pub made : List Bound

-- Beside a part of an open program: the whole, the declarators of the innermost list or arrow body around, the name for
-- `this` of the target around, and what is to be written at the program's top.
pub data Ledger : Type 0 where
  ledger : Whole → Pending → Option Bound → Additions → Ledger

-- Where something stands: what its place takes of it, its ancestors, the parent first, its role, and the symbol that each
-- name finds from here, in the program with all that is pending written.
pub record Site : Type 0 where
  pub need : Need
  pub above : List Ancestor
  pub role : Role
  pub names : Place

abbrev pub the_program : Site
the_program = record { need = all_of_it; above = []; role = reads; names = nowhere }

-- Of the fields of an ancestor only this is known: which of them are missing.
abbrev pub outline : OpenFields → Fields
outline ends = done
outline (gap and fs) = missing then outline fs
outline (f and fs) = one (word []) then outline fs

-- the site of what stands in a field of a node
abbrev pub site_in : Site → AstType → Label → OpenFields → ℕ → Site
site_in n k l fs i = record {
  need = needs n.need k l.texts l.flags i;
  above = ancestor k l (outline fs) i 0 ∷ n.above;
  role = role_at n.role k l (finished_fields fs) i;
  names = place_in n.names k l (role_at n.role k l (finished_fields fs)) (finished_fields fs) i;
}

-- whether the list that stands here is that of a program, or of another target of arrows: a static block, or the body of a
-- function that is no arrow
abbrev pub is_program_list : List Ancestor → Bool
is_program_list up = stands_in Program 1 up

abbrev pub is_target : List Ancestor → Bool
is_target [] = false
is_target (a ∷ up) = leads_by StaticBlock 0 a || (leads_by FunctionBody 1 a && not (stands_in ArrowFunctionExpression 1 up))

-- Where a rule acts, and what it leaves there: a node, a statement with those before and after it, a list with what is
-- pending for it, an arrow's body that is an expression, or some statements.
pub data Spot : Type 0 where
  at_node : Tree → Spot
  at_beside : List Tree → Tree → List Tree → Spot
  at_list : Pending → Option Bound → Additions → Trees → Spot
  at_body : Pending → Tree → Spot
  at_trees : Trees → Spot

abbrev pub Rule : Type 1
Rule = Site → Ledger → Spot → Ledger → Spot → Type 0

-- what an expression is here: it is no body and no import, and declares nothing around it (8.2.4, 8.2.6)
pub record IsExpression (t : Tree) : Type 0 where
  pub no_body : is_var_scope (kind_of t) ≡ false
  pub no_import : is_import t ≡ false
  pub declares_nothing : (v : Bool) → declared v reads t ≡ []

-- the fields of the body of an arrow with what is pending for it and a `return`
abbrev pub body_fields : List Tree → List Tree → Tree → Fields
body_fields vs ls e = many empty then statements (written (record { vars = vs; lets = ls }) (return_node e before empty)) then done

-- what names find from an arrow's body that is the expression e, with those that are pending for it
abbrev pub names_in_body : Place → List Tree → List Tree → Tree → Place
names_in_body p [] [] e = record p { parameters = no_name }
names_in_body p vs ls e = place_in p FunctionBody (made [] []) (role_at reads FunctionBody (made [] []) (body_fields vs ls e)) (body_fields vs ls e) 1

abbrev pub site_in_body : Site → Pending → Tree → Site
site_in_body n p e = record n { role = reads; names = names_in_body n.names p.vars p.lets e }

-- One step: a rule at one place, and all else stays.
mutual
  pub data Step (R : Site → Ledger → Spot → Ledger → Spot → Type 0) : Site → Ledger → Open → Ledger → Open → Type 0 where
    acts : {n : Site} {s s' : Ledger} (t u : Tree) → R n s (at_node t) s' (at_node u) → Step R n s (opened t) s' (opened u)
    inside : {n : Site} {s s' : Ledger} {k : AstType} {l : Label} {fs gs : OpenFields} → FieldsStep R (site_in n k l fs) s fs s' gs → Step R n s (open_node k l fs) s' (open_node k l gs)

  pub data FieldsStep (R : Site → Ledger → Spot → Ledger → Spot → Type 0) : (ℕ → Site) → Ledger → OpenFields → Ledger → OpenFields → Type 0 where
    in_first : {c : ℕ → Site} {s s' : Ledger} {f g : OpenField} {fs : OpenFields} → FieldStep R (c zero) s f s' g → FieldsStep R c s (f and fs) s' (g and fs)
    in_later : {c : ℕ → Site} {s s' : Ledger} {f : OpenField} {fs gs : OpenFields} → FieldsStep R (λ i. c (suc i)) s fs s' gs → FieldsStep R c s (f and fs) s' (f and gs)

  pub data FieldStep (R : Site → Ledger → Spot → Ledger → Spot → Type 0) : Site → Ledger → OpenField → Ledger → OpenField → Type 0 where
    in_child : {n : Site} {s s' : Ledger} {t u : Open} → Step R n s t s' u → FieldStep R n s (child t) s' (child u)
    in_children : {n : Site} {s s' : Ledger} {ts us : OpenTrees} → TreesStep R n s ts s' us → FieldStep R n s (children ts) s' (children us)
    in_body : {n : Site} {w w' : Whole} {o p q : Pending} {x x' : Option Bound} {a a' : Additions} {t u : Open} → n.role ≡ reads → IsExpression (finished t) → IsExpression (finished u) → Step R (site_in_body n p (finished t)) (ledger w p x a) t (ledger w' q x' a') u → FieldStep R n (ledger w o x a) (body p t) (ledger w' o x' a') (body q u)
    in_list : {n : Site} {w w' : Whole} {o p q : Pending} {x x' y : Option Bound} {a a' b : Additions} {ts us : OpenTrees} → is_target n.above ≡ false → is_program_list n.above ≡ false → TreesStep R n (ledger w p x a) ts (ledger w' q x' a') us → FieldStep R n (ledger w o x a) (list p y b ts) (ledger w' o x' a') (list q y b us)
    in_target : {n : Site} {w w' : Whole} {o p q : Pending} {x y y' : Option Bound} {a a' b : Additions} {ts us : OpenTrees} → is_target n.above ≡ true → TreesStep R n (ledger w p y a) ts (ledger w' q y' a') us → FieldStep R n (ledger w o x a) (list p y b ts) (ledger w' o x a') (list q y' b us)
    in_program : {n : Site} {w w' : Whole} {o p q : Pending} {x y y' : Option Bound} {a b b' : Additions} {ts us : OpenTrees} → is_program_list n.above ≡ true → TreesStep R n (ledger w p y b) ts (ledger w' q y' b') us → FieldStep R n (ledger w o x a) (list p y b ts) (ledger w' o x a) (list q y' b' us)
    acts_on_list : {n : Site} {s s' : Ledger} {p q : Pending} {x y : Option Bound} {a b : Additions} (ts us : Trees) → R n s (at_list p x a ts) s' (at_list q y b us) → FieldStep R n s (list p x a (opened_trees ts)) s' (list q y b (opened_trees us))
    acts_on_body : {n : Site} {s s' : Ledger} {p : Pending} (t u : Tree) → R n s (at_body p t) s' (at_node u) → FieldStep R n s (body p (opened t)) s' (child (opened u))

  pub data TreesStep (R : Site → Ledger → Spot → Ledger → Spot → Type 0) : Site → Ledger → OpenTrees → Ledger → OpenTrees → Type 0 where
    in_head : {n : Site} {s s' : Ledger} {t u : Open} {ts : OpenTrees} → Step R n s t s' u → TreesStep R n s (t next ts) s' (u next ts)
    in_tail : {n : Site} {s s' : Ledger} {t : Open} {ts us : OpenTrees} → TreesStep R n s ts s' us → TreesStep R n s (t next ts) s' (t next us)
    in_flanked : {n : Site} {s s' : Ledger} {bs cs : List Tree} {t u : Open} {ts : OpenTrees} → Step R n s t s' u → TreesStep R n s (flanked bs t cs ts) s' (flanked bs u cs ts)
    after_flanked : {n : Site} {s s' : Ledger} {bs cs : List Tree} {t : Open} {ts us : OpenTrees} → TreesStep R n s ts s' us → TreesStep R n s (flanked bs t cs ts) s' (flanked bs t cs us)
    flanks : {n : Site} {s s' : Ledger} {bs cs : List Tree} {ts : OpenTrees} (t u : Tree) → R n s (at_node t) s' (at_beside bs u cs) → TreesStep R n s (opened t next ts) s' (flanked bs (opened u) cs ts)
    acts_on_flanked : {n : Site} {s s' : Ledger} {bs cs : List Tree} {ts : OpenTrees} (t : Tree) (us : Trees) → R n s (at_beside bs t cs) s' (at_trees us) → TreesStep R n s (flanked bs (opened t) cs ts) s' (followed_by (opened_trees us) ts)

-- steps in a row
pub data Steps {X : Type 0} (S : Ledger → X → Ledger → X → Type 0) : Ledger → X → Ledger → X → Type 0 where
  stays : {s : Ledger} {t : X} → Steps S s t s t
  goes : {s s' s'' : Ledger} {t u v : X} → S s t s' u → Steps S s' u s'' v → Steps S s t s'' v
