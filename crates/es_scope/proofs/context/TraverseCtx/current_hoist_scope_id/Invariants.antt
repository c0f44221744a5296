use Rattle.std.proofs.Common.{◌≡◌, ◌<◌, ℕ, Some, slice_get}
use Rattle.es_scope.specs.Contexts.{hoist_scope_at, table_of}
use Rattle.es_scope.specs.Tables.{scope_count}
use Rattle.es_scope.specs.declared.ancestor.Place.{Place}
use Rattle.es_scope.proofs.HoistPlaces.{hoist_of}
use Rattle.es_scope.proofs.context.TraverseCtx.current_hoist_scope_id.Given as goal

-- the places that are left say the same, and their scopes are of the table
abbrev pub invariant-loop-place : goal.invariant-loop-place
invariant-loop-place g l = record {
  rest : hoist_of l.place-iterator.iter.rest.now ≡ hoist_scope_at l.self;
  known : (n : ℕ) (p : Place) → slice_get l.place-iterator.iter.rest.now n ≡ Some p → p.scope.0 < scope_count (table_of l.self);
}
