use Rattle.std.proofs.Common.{◌≡◌, ◌≤◌, ◌+◌, ◌++◌, length, vec_len, vec_capacity}
use Rattle.std.specs.Prelude.{nat_eq, ℕ}
use Rattle.std.specs.HashMap.{get}
use Rattle.std.specs.Vec.Iter.{into_iter_items}
use Rattle.lower_stores.specs.BareInsertions.{lists_left, woven}
use Rattle.lower_stores.proofs.statement_injector.weave.Given as goal

abbrev pub invariant-loop-statement : goal.invariant-loop-statement
invariant-loop-statement l = record {
  room : vec_len l.written + length (woven (get nat_eq l.insertions) (into_iter_items l.statement-iterator)) ≤ vec_capacity l.written;
  written : l.written.items ++ woven (get nat_eq l.insertions) (into_iter_items l.statement-iterator) ≡ l.initial.written.items ++ woven (get nat_eq l.initial.insertions) l.fn.statements.items;
  left : (id : ℕ) → lists_left (get nat_eq l.insertions) (into_iter_items l.statement-iterator) id ≡ lists_left (get nat_eq l.initial.insertions) l.fn.statements.items id;
}
