use Rattle.std.proofs.Common.{◌≡◌, ◌+◌, drop}
use Rattle.std.specs.Prelude.{nat_eq}
use Rattle.std.specs.HashMap.{get}
use Rattle.lower_stores.specs.BareInsertions.{room_for}
use Rattle.lower_stores.proofs.statement_injector.count_with_lists.Given as goal

abbrev pub invariant-loop-statement : goal.invariant-loop-statement
invariant-loop-statement l =
    l.count + room_for (get nat_eq l.insertions) (drop l.statement-index l.statements) ≡ room_for (get nat_eq l.insertions) l.statements
