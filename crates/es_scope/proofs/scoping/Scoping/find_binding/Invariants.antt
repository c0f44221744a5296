use Rattle.std.proofs.Common.{ℕ, ◌<◌, Option}
use Rattle.es_scope.specs.Tables.{Finds, parent_of, scope_count}
use Rattle.es_scope.proofs.Outward.{steps_out}
use Rattle.es_scope.proofs.scoping.Scoping.find_binding.Given as goal

-- what is found from here on is what the call answers
abbrev pub invariant-loop-found : goal.invariant-loop-found
invariant-loop-found l = record {
  known : l.scope_id.0 < scope_count l.self;
  rest : (r : Option ℕ) → Finds l.self l.name l.scope_id.0 r → Finds l.self l.name l.initial.scope_id.0 r;
}

abbrev pub decreases-loop-found : goal.decreases-loop-found
decreases-loop-found l = steps_out (parent_of l.self) l.scope_id.0 (l.self.outwards.end l.scope_id.0)
