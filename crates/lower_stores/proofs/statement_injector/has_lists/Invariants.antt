use Rattle.std.proofs.Common.{◌≡◌, drop}
use Rattle.std.specs.Prelude.{nat_eq}
use Rattle.std.specs.HashMap.{get}
use Rattle.lower_stores.specs.BareInsertions.{has_lists}
use Rattle.lower_stores.proofs.statement_injector.has_lists.Given as goal

abbrev pub invariant-loop-statement : goal.invariant-loop-statement
invariant-loop-statement l =
    has_lists (get nat_eq l.insertions) (drop l.statement-index l.statements) ≡ has_lists (get nat_eq l.insertions) l.statements
