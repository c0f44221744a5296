use Rattle.std.proofs.Common.{◌≡◌, ℕ, ◌<◌, None}
use Rattle.es_scope.specs.Tables.{binding_in}
use Rattle.es_unsupported.proofs.names.binds_anywhere.Given as goal

abbrev pub invariant-loop-number : goal.invariant-loop-number
invariant-loop-number l = (n : ℕ) → n < l.number → binding_in l.scoping n l.name ≡ None
