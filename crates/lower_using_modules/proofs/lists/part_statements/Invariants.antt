use Rattle.std.proofs.Common.{◌≡◌}
use Rattle.std.specs.Vec.Iter.{into_iter_items}
use Rattle.es_tree.specs.Tree.{trees}
use Rattle.es_steps.specs.Nodes.{joined_trees}
use Rattle.es_using_modules.specs.ModuleTops.{inside, outside}
use Rattle.lower_using_modules.specs.Parts.{making}
use Rattle.lower_using_modules.proofs.lists.part_statements.Given as goal

-- what is left and what moved, with the others to come, is all of them
abbrev pub invariant-loop-statement : goal.invariant-loop-statement
invariant-loop-statement l = record {
  outside : joined_trees (trees l.left.items) (outside (making l.fn.default l.fn.context) (trees (into_iter_items l.statement-iterator))) ≡ outside (making l.fn.default l.fn.context) (trees l.fn.statements.items);
  inside : joined_trees (trees l.moved.items) (inside (making l.fn.default l.fn.context) (trees (into_iter_items l.statement-iterator))) ≡ inside (making l.fn.default l.fn.context) (trees l.fn.statements.items);
}
