-- A test of nodes that ids and marks don't count for holds of a program as it is read where it holds of the program.
use Rattle.std.proofs.Common.{◌≡◌, refl, sym, ap, ◌∙◌}
use Rattle.std.specs.Prelude.{Bool, true, ◌&&◌}
use Rattle.es_tree.specs.Bare.{bare, bare_field, bare_fields, bare_label, bare_trees}
use Rattle.es_tree.specs.Tree.{Tree, node, Label, Fields, done, ◌then◌, Field, missing, one, many, statements, Trees, empty, ◌before◌}
use Rattle.es_tree.specs.Walks.{all_in_field, all_in_fields, all_in_trees, all_nodes}
use Rattle.es_tree.specs.declared.ast_type.AstType.{AstType}
use Rattle.es_resolution.specs.Laws.{source}
use Rattle.es_statement_steps.proofs.ReachedRuns.{source-bare}

module _ (P : AstType → Label → Fields → Bool) (same : (k : AstType) (l : Label) (fs : Fields) → P k (bare_label l) (bare_fields fs) ≡ P k l fs) where
  mutual
    nodes-bare : (t : Tree) → all_nodes P (bare t) ≡ all_nodes P t
    nodes-bare (node k l fs) = λ i. same k l fs i && fields-bare fs i

    pub fields-bare : (fs : Fields) → all_in_fields P (bare_fields fs) ≡ all_in_fields P fs
    fields-bare done = refl
    fields-bare (f then fs) = λ i. field-bare f i && fields-bare fs i

    field-bare : (f : Field) → all_in_field P (bare_field f) ≡ all_in_field P f
    field-bare missing = refl
    field-bare (one t) = nodes-bare t
    field-bare (many ts) = trees-bare ts
    field-bare (statements ts) = trees-bare ts

    trees-bare : (ts : Trees) → all_in_trees P (bare_trees ts) ≡ all_in_trees P ts
    trees-bare empty = refl
    trees-bare (t before ts) = λ i. nodes-bare t i && trees-bare ts i

  pub source-passes : (p : Tree) → all_nodes P p ≡ true → all_nodes P (source p) ≡ true
  source-passes p h = sym (nodes-bare (source p)) ∙ ap (λ t. all_nodes P t) (sym (source-bare p)) ∙ nodes-bare p ∙ h
