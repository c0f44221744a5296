use Rattle.std.proofs.Common.{◌≡◌}
use Rattle.es_tree.specs.Parens.{without_parens}
use Rattle.es_tree.specs.Tree.{tree_size}
use Rattle.lower_temporaries.proofs.parens.take_from_parens.Given as goal

abbrev pub invariant-loop-inner : goal.invariant-loop-inner
invariant-loop-inner l = without_parens l.inner ≡ without_parens l.fn.node

abbrev pub decreases-loop-inner : goal.decreases-loop-inner
decreases-loop-inner l = tree_size l.inner
