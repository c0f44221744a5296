use Rattle.std.proofs.Common.{◌≡◌}
use Rattle.es_tree.specs.Tree.{tree_size}
use Rattle.lower_chains.specs.Spines.{has_chain}
use Rattle.lower_chains.proofs.parts.has_chain.Given as goal

-- what stands inside the parentheses so far says the same
abbrev pub invariant-loop-inner : goal.invariant-loop-inner
invariant-loop-inner l = has_chain l.inner ≡ has_chain l.fn.node

abbrev pub decreases-loop-inner : goal.decreases-loop-inner
decreases-loop-inner l = tree_size l.inner
