use Rattle.std.proofs.Common.{◌≡◌}
use Rattle.std.specs.Vec.Iter.{into_iter_items}
use Rattle.es_tree.specs.Tree.{trees}
use Rattle.es_steps.specs.Nodes.{joined_trees}
use Rattle.es_export_splits.specs.Splits.{plainly, split_list}
use Rattle.lower_export_splits.proofs.statements.split_statements.Given as goal

-- what is split, with the others split, is all of them split
abbrev pub invariant-loop-statement : goal.invariant-loop-statement
invariant-loop-statement l = joined_trees (trees l.split.items) (split_list plainly (trees (into_iter_items l.statement-iterator))) ≡ split_list plainly (trees l.fn.statements.items)
