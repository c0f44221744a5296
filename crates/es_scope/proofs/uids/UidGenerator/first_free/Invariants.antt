use Rattle.std.proofs.Common.{◌≡◌, ℕ, ◌<◌, true}
use Rattle.es_tree.specs.Fresh.{candidate}
use Rattle.es_scope.specs.Uids.{uses}
use Rattle.es_scope.proofs.uids.UidGenerator.first_free.Given as goal

-- the candidates so far are in use
abbrev pub invariant-loop-number : goal.invariant-loop-number
invariant-loop-number l = (m : ℕ) → m < l.number → uses l.self (candidate l.base m) ≡ true
