use Rattle.std.proofs.Common.{◌≡◌, false, take}
use Rattle.es_tree.specs.Constructs.{any_kind, is_spread}
use Rattle.es_tree.specs.Tree.{trees}
use Rattle.es_nodes.proofs.construct.any_spread.Given as goal

abbrev pub invariant-loop-node : goal.invariant-loop-node
invariant-loop-node l = any_kind is_spread (trees (take l.node-index l.nodes)) ≡ false
