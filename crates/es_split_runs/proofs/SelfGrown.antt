-- A tree that avoids what is bad is the same as itself but for scopes that grow.
use Rattle.std.proofs.Common.{◌≡◌, ℕ, List}
use Rattle.std.specs.Prelude.{Bool, true}
use Rattle.es_tree.specs.Words.{Text}
use Rattle.es_tree.specs.Scopes.{Declared}
use Rattle.es_tree.specs.Tree.{Tree, Fields, Field, Trees}
use Rattle.es_runs.specs.Alike.{Level}
use Rattle.es_statement_runs.specs.Laws.{no_row}
use Rattle.es_statement_runs.specs.Places.{Close, CloseField, CloseFields, CloseTrees, Take, avoids, avoids_trees}
use Rattle.es_statement_runs.specs.Places.Close.{placed, within}
use Rattle.es_statement_runs.specs.Places.CloseField.{close_many, close_missing, close_one, close_statements}
use Rattle.es_statement_runs.specs.Places.CloseFields.{close_done, close_then}
use Rattle.es_statement_runs.specs.Places.CloseTrees.{close_before, close_empty}
use Rattle.es_statement_runs.proofs.Everywhere.{close_self, close_trees}
use Rattle.es_split_runs.specs.Growing.{Grown, GrownField, GrownFields, GrownTrees}
use Rattle.es_split_runs.specs.Growing.Grown.{in_node}
use Rattle.es_split_runs.specs.Growing.GrownField.{grown_many, grown_missing, grown_one, grown_statements}
use Rattle.es_split_runs.specs.Growing.GrownFields.{grown_done, grown_then}
use Rattle.es_split_runs.specs.Growing.GrownTrees.{grown_before, grown_empty}

module _ (bad : Level → Text → Bool) (fresh : Text → Bool) (R : List Declared → Take → Tree → Tree → Type 0) where
  mutual
    close_grown : {ds : List Declared} {t : Take} {a b : Tree} → Close bad no_row t a b → Grown bad fresh R ds t a b
    close_grown (placed r) = absurd r
    close_grown (within st e1 e2 e3 e4 e5 vis h) = in_node st e1 e2 e3 e4 e5 vis (fields_grown h)

    fields_grown : {d : ℕ → List Declared} {c : ℕ → Take} {fs gs : Fields} → CloseFields bad no_row c fs gs → GrownFields bad fresh R d c fs gs
    fields_grown close_done = grown_done
    fields_grown (close_then h hs) = grown_then (field_grown h) (fields_grown hs)

    field_grown : {ds : List Declared} {t : Take} {f g : Field} → CloseField bad no_row t f g → GrownField bad fresh R ds t f g
    field_grown close_missing = grown_missing
    field_grown (close_one h) = grown_one (close_grown h)
    field_grown (close_many h) = grown_many (trees_grown h)
    field_grown (close_statements h) = grown_statements (trees_grown h)

    trees_grown : {ds : List Declared} {t : Take} {xs ys : Trees} → CloseTrees bad no_row t xs ys → GrownTrees bad fresh R ds t xs ys
    trees_grown close_empty = grown_empty
    trees_grown (close_before h hs) = grown_before (close_grown h) (trees_grown hs)

  pub self_grown : (a : Tree) (ds : List Declared) (t : Take) → avoids bad t a ≡ true → Grown bad fresh R ds t a a
  self_grown a ds t h = close_grown (close_self bad no_row a t h)

  pub selves_grown : (ts : Trees) (ds : List Declared) (t : Take) → avoids_trees bad t ts ≡ true → GrownTrees bad fresh R ds t ts ts
  selves_grown ts ds t h = trees_grown (close_trees bad no_row ts t h)
