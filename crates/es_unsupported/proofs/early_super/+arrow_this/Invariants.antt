use Rattle.std.proofs.Common.{◌≡◌, false, take}
use Rattle.es_tree.specs.Tree.{trees}
use Rattle.es_unsupported.specs.EarlySuper.{arrow_this_among}
use Rattle.es_unsupported.proofs.EarlyWalks.{keeps_of, stands}
use Rattle.es_unsupported.proofs.early_super.+arrow_this.Given as goal

-- none stands in the fields so far
abbrev pub invariant-arrow_this-loop-index : goal.invariant-arrow_this-loop-index
invariant-arrow_this-loop-index l = stands l.within (keeps_of l.node) (take l.index l.field-items) ≡ false

-- none in the nodes so far
abbrev pub invariant-arrow_this_by-loop-node : goal.invariant-arrow_this_by-loop-node
invariant-arrow_this_by-loop-node l = arrow_this_among l.inside (trees (take l.node-index l.node-items)) ≡ false
