use Rattle.std.proofs.Common.{◌≡◌, take}
use Rattle.es_tree.specs.Tree.{trees}
use Rattle.es_steps.specs.Nodes.{joined_trees}
use Rattle.es_export_splits.specs.Splits.{plainly, specifiers}
use Rattle.lower_export_splits.proofs.specifiers.add_of_pattern.Given as goal

abbrev pub invariant-loop-name : goal.invariant-loop-name
invariant-loop-name l = trees l.made.items ≡ joined_trees (trees l.initial.made.items) (specifiers plainly (take l.name-index l.name-items))
