-- What is seen of a tree has its weight, and what is seen of a list its size: ids and marks don't count.
use Rattle.std.proofs.Common.{◌≡◌, ℕ, ◌+◌, suc, refl, List}
use Rattle.std.specs.Prelude.{Option}
use Rattle.es_tree.specs.Tree.{Tree, node, Label, Fields, done, ◌then◌, Field, missing, one, many, statements, Trees, empty, ◌before◌, trees_size}
use Rattle.es_tree.specs.Words.{Text}
use Rattle.es_tree.specs.declared.ast_type.AstType.{AstType}
use Rattle.es_tree.specs.declared.ast_type.AstType.TheVariants.{AssignmentExpression, BinaryExpression, LogicalExpression}
use Rattle.es_resolution.specs.Seen.{seen, seen_among, seen_by, seen_in, seen_marks}
use Rattle.es_runs.specs.Weights.{own_weight, weight, fields_weight, field_weight, trees_weight}
use Rattle.lower_temporaries.proofs.SeenLaws.{size-seen}

own-weight-seen : (k : AstType) (l : Label) (marks : List (Option ℕ)) (fs gs : Fields) → own_weight k (record l { id = 0; marks = marks }) gs ≡ own_weight k l fs
own-weight-seen LogicalExpression l ms fs gs = refl
own-weight-seen BinaryExpression l ms fs gs = refl
own-weight-seen AssignmentExpression l ms fs gs = refl
own-weight-seen _ l ms fs gs = refl

module _ (names : ℕ → Text → Option ℕ) where
  mutual
    pub weight-seen : (t : Tree) → weight (seen names t) ≡ weight t
    weight-seen (node k l fs) = λ i. suc (own-weight-seen k l (seen_marks names k l fs) fs (seen_in names fs) i + fields-weight-seen fs i)

    fields-weight-seen : (fs : Fields) → fields_weight (seen_in names fs) ≡ fields_weight fs
    fields-weight-seen done = refl
    fields-weight-seen (f then fs) = λ i. field-weight-seen f i + fields-weight-seen fs i

    field-weight-seen : (f : Field) → field_weight (seen_by names f) ≡ field_weight f
    field-weight-seen missing = refl
    field-weight-seen (one t) = weight-seen t
    field-weight-seen (many ts) = trees-weight-seen ts
    field-weight-seen (statements ts) = trees-weight-seen ts

    pub trees-weight-seen : (ts : Trees) → trees_weight (seen_among names ts) ≡ trees_weight ts
    trees-weight-seen empty = refl
    trees-weight-seen (t before ts) = λ i. weight-seen t i + trees-weight-seen ts i

  pub trees-size-seen : (ts : Trees) → trees_size (seen_among names ts) ≡ trees_size ts
  trees-size-seen empty = refl
  trees-size-seen (t before ts) = λ i. size-seen names t i + trees-size-seen ts i
