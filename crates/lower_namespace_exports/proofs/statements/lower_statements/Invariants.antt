use Rattle.std.specs.Vec.Iter.{into_iter_items}
use Rattle.es_tree.specs.Tree.{trees}
use Rattle.es_runs.specs.Weights.{trees_weight}
use Rattle.es_changes.specs.Changes.{HasRoom}
use Rattle.lower_temporaries.specs.Takings.{moment_of}
use Rattle.lower_namespace_exports.proofs.Weighed.{LoweredSoFar}
use Rattle.lower_namespace_exports.proofs.statements.lower_statements.Given as goal

abbrev pub invariant-loop-statement : goal.invariant-loop-statement
invariant-loop-statement l = record {
  so_far : LoweredSoFar (moment_of l.initial.ctx) l.fn.statements.items (moment_of l.ctx) l.lowered.items (into_iter_items l.statement-iterator);
  room : HasRoom (moment_of l.ctx) (trees_weight (trees (into_iter_items l.statement-iterator)));
}
