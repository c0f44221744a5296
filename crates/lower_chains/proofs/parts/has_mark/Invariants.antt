use Rattle.std.proofs.Common.{◌≡◌}
use Rattle.es_tree.specs.Tree.{tree_size}
use Rattle.lower_chains.specs.Spines.{has_mark}
use Rattle.lower_chains.proofs.parts.has_mark.Given as goal

-- what is left of the spine says the same
abbrev pub invariant-loop-step : goal.invariant-loop-step
invariant-loop-step l = has_mark l.step ≡ has_mark l.fn.node

abbrev pub decreases-loop-step : goal.decreases-loop-step
decreases-loop-step l = tree_size l.step
