-- Ids and marks mean nothing: a bare tree has the meaning, the declared names, the names and the written names of the tree.
use Rattle.std.proofs.Common.{◌≡◌, ℕ, zero, suc, refl, ap, sym, ◌∙◌, List, [], ◌∷◌, ◌++◌}
use Rattle.std.specs.Prelude.{Bool, true, false, ◌&&◌, ◌||◌, if◌then◌else◌}
use Rattle.es_tree.specs.Words.{Text}
use Rattle.es_tree.specs.Bare.{bare, bare_label, bare_fields, bare_field, bare_trees}
use Rattle.es_tree.specs.Fresh.{is_among}
use Rattle.es_tree.specs.Names.{first_text, names_if, names_in_fields, names_in_field, names_in_trees, own_name, is_name_place, is_reexport, third_stands}
use Rattle.es_tree.specs.Tree.{Tree, node, Label, Fields, done, ◌then◌, Field, missing, one, many, statements, Trees, empty, ◌before◌}
use Rattle.es_tree.specs.Walks.{all_nodes, all_in_fields, all_in_field, all_in_trees, any_in_fields, any_in_field, any_in_trees}
use Rattle.es_tree.specs.declared.ast_type.AstType.{AstType}
use Rattle.es_tree.specs.declared.ast_type.AstType.TheVariants.{AssignmentExpression, VariableDeclaration, ExportNamedDeclaration, Identifier, MemberExpression, ParenthesizedExpression, UpdateExpression}
use Rattle.es_runs.specs.Machine.{Value, Move}
use Rattle.es_runs.specs.Core.{World, value, meaning, meanings, part, parts, meaning_of, single, several}
use Rattle.es_tree.specs.Scopes.{Declared, declared_of, program_names, declared_in_body, declared_by, declared_in, declared_names, declarator_name, is_written, name_in, target_names, writes, written_by}
use Rattle.es_runs.specs.Runs.{run_where, world_of, cells_of}
use Rattle.es_runs.specs.Machine.State.{state}
use Rattle.es_runs.proofs.CoreWorlds.{core_world, IsCoreWorld, core_means}

mutual
  pub meaning-bare : (w : World) → IsCoreWorld w → (t : Tree) → meaning w (bare t) ≡ meaning w t
  meaning-bare w core (node k l fs) = core_means w core k (bare_label l) (bare_fields fs) ∙ (ap (meaning_of w k l.texts l.flags) (parts-bare w core fs) ∙ sym (core_means w core k l fs))

  parts-bare : (w : World) → IsCoreWorld w → (fs : Fields) → parts w (bare_fields fs) ≡ parts w fs
  parts-bare w core done = refl
  parts-bare w core (f then fs) = λ i. part-bare w core f i ∷ parts-bare w core fs i

  part-bare : (w : World) → IsCoreWorld w → (f : Field) → part w (bare_field f) ≡ part w f
  part-bare w core missing = refl
  part-bare w core (one t) = ap single (meaning-bare w core t)
  part-bare w core (many ts) = ap several (meanings-bare w core ts)
  part-bare w core (statements ts) = ap several (meanings-bare w core ts)

  meanings-bare : (w : World) → IsCoreWorld w → (ts : Trees) → meanings w (bare_trees ts) ≡ meanings w ts
  meanings-bare w core empty = refl
  meanings-bare w core (t before ts) = λ i. meaning-bare w core t i ∷ meanings-bare w core ts i

name_in-bare : (fs : Fields) → name_in (bare_fields fs) ≡ name_in fs
name_in-bare done = refl
name_in-bare (missing then fs) = refl
name_in-bare (one (node k l gs) then fs) = refl
name_in-bare (many ts then fs) = refl
name_in-bare (statements ts then fs) = refl

declarator_name-bare : (t : Tree) → declarator_name (bare t) ≡ declarator_name t
declarator_name-bare (node k l fs) = name_in-bare fs

declared_names-bare : (kind : Text) (ts : Trees) → declared_names kind (bare_trees ts) ≡ declared_names kind ts
declared_names-bare kind empty = refl
declared_names-bare kind (t before ts) = λ i. record { name = declarator_name-bare t i; kind = kind } ∷ declared_names-bare kind ts i

declared_in-bare : (k : AstType) (kind : Text) (fs : Fields) → declared_in k kind (bare_fields fs) ≡ declared_in k kind fs
declared_in-bare VariableDeclaration kind done = refl
declared_in-bare VariableDeclaration kind (missing then fs) = refl
declared_in-bare VariableDeclaration kind (one t then fs) = refl
declared_in-bare VariableDeclaration kind (many ts then fs) = declared_names-bare kind ts
declared_in-bare VariableDeclaration kind (statements ts then fs) = refl
declared_in-bare _ kind fs = refl

declared_by-bare : (t : Tree) → declared_by (bare t) ≡ declared_by t
declared_by-bare (node k l fs) = declared_in-bare k (first_text l.texts) fs

pub declared_in_body-bare : (ts : Trees) → declared_in_body (bare_trees ts) ≡ declared_in_body ts
declared_in_body-bare empty = refl
declared_in_body-bare (t before ts) = λ i. declared_by-bare t i ++ declared_in_body-bare ts i

program_names-bare : (fs : Fields) → program_names (bare_fields fs) ≡ program_names fs
program_names-bare done = refl
program_names-bare (f then done) = refl
program_names-bare (f then (missing then fs)) = refl
program_names-bare (f then (one t then fs)) = refl
program_names-bare (f then (many ts then fs)) = refl
program_names-bare (f then (statements ts then fs)) = declared_in_body-bare ts

pub declared_of-bare : (t : Tree) → declared_of (bare t) ≡ declared_of t
declared_of-bare (node k l fs) = program_names-bare fs

pub run_where-bare : (loose : Bool) (ds : List Declared) (t : Tree) (this : Value) (moves : List Move) → run_where loose ds (bare t) this moves ≡ run_where loose ds t this moves
run_where-bare loose ds t this moves = ap (λ m. value (world_of loose this ds) m (state (cells_of ds) moves [])) (meaning-bare (world_of loose this ds) (core_world _ _ _) t)

pub run-bare : (loose : Bool) (t : Tree) (this : Value) (moves : List Move) → run_where loose (declared_of (bare t)) (bare t) this moves ≡ run_where loose (declared_of t) t this moves
run-bare loose t this moves = ap (λ ds. run_where loose ds (bare t) this moves) (declared_of-bare t) ∙ run_where-bare loose (declared_of t) t this moves

third_stands-bare : (fs : Fields) → third_stands (bare_fields fs) ≡ third_stands fs
third_stands-bare done = refl
third_stands-bare (a then done) = refl
third_stands-bare (a then (b then done)) = refl
third_stands-bare (a then (b then (missing then fs))) = refl
third_stands-bare (a then (b then (one t then fs))) = refl
third_stands-bare (a then (b then (many ts then fs))) = refl
third_stands-bare (a then (b then (statements ts then fs))) = refl

is_reexport-bare : (k : AstType) (fs : Fields) → is_reexport k (bare_fields fs) ≡ is_reexport k fs
is_reexport-bare ExportNamedDeclaration fs = third_stands-bare fs
is_reexport-bare _ fs = refl

own_name-bare : (counts : Bool) (k : AstType) (l : Label) → own_name counts k (bare_label l) ≡ own_name counts k l
own_name-bare true Identifier l = refl
own_name-bare false Identifier l = refl
own_name-bare true _ l = refl
own_name-bare false _ l = refl

is_name_place-bare : (k : AstType) (l : Label) (n : ℕ) → is_name_place k (bare_label l) n ≡ is_name_place k l n
is_name_place-bare MemberExpression l zero = refl
is_name_place-bare MemberExpression l (suc zero) = refl
is_name_place-bare MemberExpression l (suc (suc n)) = refl
is_name_place-bare _ l zero = refl
is_name_place-bare _ l (suc zero) = refl
is_name_place-bare _ l (suc (suc n)) = refl

mutual
  pub names-bare : (counts : Bool) (t : Tree) → names_if counts (bare t) ≡ names_if counts t
  names-bare counts (node k l fs) = λ i. own_name-bare counts k l i ++ (if is_reexport-bare k fs i then [] else names_in_fields-bare (λ n. is_name_place-bare k l n i) fs i)

  names_in_fields-bare : (p : ℕ → Bool) (fs : Fields) → names_in_fields p (bare_fields fs) ≡ names_in_fields p fs
  names_in_fields-bare p done = refl
  names_in_fields-bare p (f then fs) = λ i. names_in_field-bare (p zero) f i ++ names_in_fields-bare (λ n. p (suc n)) fs i

  names_in_field-bare : (counts : Bool) (f : Field) → names_in_field counts (bare_field f) ≡ names_in_field counts f
  names_in_field-bare counts missing = refl
  names_in_field-bare counts (one t) = names-bare counts t
  names_in_field-bare counts (many ts) = names_in_trees-bare ts
  names_in_field-bare counts (statements ts) = names_in_trees-bare ts

  names_in_trees-bare : (ts : Trees) → names_in_trees (bare_trees ts) ≡ names_in_trees ts
  names_in_trees-bare empty = refl
  names_in_trees-bare (t before ts) = λ i. names-bare true t i ++ names_in_trees-bare ts i

-- A BARE TREE PASSES AS THE TREE DOES

module _ (test : AstType → Label → Fields → Bool) (same : (k : AstType) (l : Label) (fs : Fields) → test k (bare_label l) (bare_fields fs) ≡ test k l fs) where
  mutual
    pub all-bare : (t : Tree) → all_nodes test (bare t) ≡ all_nodes test t
    all-bare (node k l fs) = λ i. same k l fs i && all-bare-fields fs i

    all-bare-fields : (fs : Fields) → all_in_fields test (bare_fields fs) ≡ all_in_fields test fs
    all-bare-fields done = refl
    all-bare-fields (f then fs) = λ i. all-bare-field f i && all-bare-fields fs i

    all-bare-field : (f : Field) → all_in_field test (bare_field f) ≡ all_in_field test f
    all-bare-field missing = refl
    all-bare-field (one t) = all-bare t
    all-bare-field (many ts) = all-bare-trees ts
    all-bare-field (statements ts) = all-bare-trees ts

    all-bare-trees : (ts : Trees) → all_in_trees test (bare_trees ts) ≡ all_in_trees test ts
    all-bare-trees empty = refl
    all-bare-trees (t before ts) = λ i. all-bare t i && all-bare-trees ts i

-- WRITTEN NAMES

target_names-bare : (t : Tree) → target_names (bare t) ≡ target_names t
target_names-bare (node Identifier l fs) = refl
target_names-bare (node ParenthesizedExpression l (one t then fs)) = target_names-bare t
target_names-bare (node ParenthesizedExpression l done) = refl
target_names-bare (node ParenthesizedExpression l (missing then fs)) = refl
target_names-bare (node ParenthesizedExpression l (many ts then fs)) = refl
target_names-bare (node ParenthesizedExpression l (statements ts then fs)) = refl
target_names-bare (node _ l fs) = refl

written_by-bare : (k : AstType) (fs : Fields) → written_by k (bare_fields fs) ≡ written_by k fs
written_by-bare AssignmentExpression (one t then fs) = target_names-bare t
written_by-bare AssignmentExpression done = refl
written_by-bare AssignmentExpression (missing then fs) = refl
written_by-bare AssignmentExpression (many ts then fs) = refl
written_by-bare AssignmentExpression (statements ts then fs) = refl
written_by-bare UpdateExpression (one t then fs) = target_names-bare t
written_by-bare UpdateExpression done = refl
written_by-bare UpdateExpression (missing then fs) = refl
written_by-bare UpdateExpression (many ts then fs) = refl
written_by-bare UpdateExpression (statements ts then fs) = refl
written_by-bare _ fs = refl

mutual
  pub written-bare : (y : Text) (t : Tree) → is_written y (bare t) ≡ is_written y t
  written-bare y (node k l fs) = λ i. is_among (written_by-bare k fs i) y || written_in_fields-bare y fs i

  written_in_fields-bare : (y : Text) (fs : Fields) → any_in_fields (writes y) (bare_fields fs) ≡ any_in_fields (writes y) fs
  written_in_fields-bare y done = refl
  written_in_fields-bare y (f then fs) = λ i. written_in_field-bare y f i || written_in_fields-bare y fs i

  written_in_field-bare : (y : Text) (f : Field) → any_in_field (writes y) (bare_field f) ≡ any_in_field (writes y) f
  written_in_field-bare y missing = refl
  written_in_field-bare y (one t) = written-bare y t
  written_in_field-bare y (many ts) = written_in_trees-bare y ts
  written_in_field-bare y (statements ts) = written_in_trees-bare y ts

  written_in_trees-bare : (y : Text) (ts : Trees) → any_in_trees (writes y) (bare_trees ts) ≡ any_in_trees (writes y) ts
  written_in_trees-bare y empty = refl
  written_in_trees-bare y (t before ts) = λ i. written-bare y t i || written_in_trees-bare y ts i
