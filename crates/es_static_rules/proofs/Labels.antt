-- Labels and the bodies behind them.
use Rattle.std.proofs.Common.{◌≡◌, false, refl}
use Rattle.es_tree.specs.Ancestors.{has_loop_body, is_labeled_loop}
use Rattle.es_tree.specs.Children.{child_at}
use Rattle.es_tree.specs.HasForm.{match_option}
use Rattle.es_tree.specs.Tree.{node, Label, Fields, done, ◌then◌, missing, one, many, statements}
use Rattle.es_tree.specs.declared.ast_type.AstType.TheVariants.{LabeledStatement}

pub has_loop_body-child : (fs : Fields) → has_loop_body fs ≡ match_option (child_at 1 fs) false is_labeled_loop
has_loop_body-child done = refl
has_loop_body-child (f then done) = refl
has_loop_body-child (f then (missing then fs)) = refl
has_loop_body-child (f then (one t then fs)) = refl
has_loop_body-child (f then (many ts then fs)) = refl
has_loop_body-child (f then (statements ts then fs)) = refl

pub is_labeled_loop-body : (l : Label) (fs : Fields) → is_labeled_loop (node LabeledStatement l fs) ≡ has_loop_body fs
is_labeled_loop-body l done = refl
is_labeled_loop-body l (f then done) = refl
is_labeled_loop-body l (f then (missing then fs)) = refl
is_labeled_loop-body l (f then (one t then fs)) = refl
is_labeled_loop-body l (f then (many ts then fs)) = refl
is_labeled_loop-body l (f then (statements ts then fs)) = refl
