-- What the form of each node passes, each node of a tree passes that has form.
use Rattle.std.proofs.Common.{◌≡◌, refl}
use Rattle.std.specs.Prelude.{true}
use Rattle.std.proofs.lemmas.Bool.{and_from}
use Rattle.es_tree.specs.HasForm.{has_form}
use Rattle.es_tree.specs.Tree.{Tree, node, Label, Fields, done, ◌then◌, Field, missing, one, many, statements, Trees, empty, ◌before◌}
use Rattle.es_tree.specs.Walks.{NodeTest, all_in_field, all_in_fields, all_in_trees, all_nodes}
use Rattle.es_tree.specs.declared.ast_type.AstType.{AstType}
use Rattle.es_tree.specs.declared.table.Sort.{Sort}
use Rattle.es_tree.proofs.NodeForm.{NodeForm}
use Rattle.es_resolution.proofs.AllForms.{All, AllAmong, AllBy, AllIn, all-tree}

module _ (test : NodeTest) where
  abbrev IsPassed : AstType → Label → Fields → Type 0
  IsPassed k l fs = test k l fs ≡ true

  mutual
    passed : (t : Tree) → All IsPassed t → all_nodes test t ≡ true
    passed (node k l fs) h = and_from (test k l fs) (all_in_fields test fs) h.0 (passed-in fs h.1)

    passed-in : (fs : Fields) → AllIn IsPassed fs → all_in_fields test fs ≡ true
    passed-in done h = refl
    passed-in (f then fs) h = and_from (all_in_field test f) (all_in_fields test fs) (passed-by f h.0) (passed-in fs h.1)

    passed-by : (f : Field) → AllBy IsPassed f → all_in_field test f ≡ true
    passed-by missing h = refl
    passed-by (one t) h = passed t h
    passed-by (many ts) h = passed-among ts h
    passed-by (statements ts) h = passed-among ts h

    passed-among : (ts : Trees) → AllAmong IsPassed ts → all_in_trees test ts ≡ true
    passed-among empty h = refl
    passed-among (t before ts) h = and_from (all_nodes test t) (all_in_trees test ts) (passed t h.0) (passed-among ts h.1)

  pub formed-nodes : ((s : Sort) (k : AstType) (l : Label) (fs : Fields) → NodeForm s k l fs → test k l fs ≡ true) → (s : Sort) (t : Tree) → has_form s t ≡ true → all_nodes test t ≡ true
  formed-nodes own s t h = passed t (all-tree IsPassed own s t h)
