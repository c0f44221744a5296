use Rattle.std.proofs.Common.{arith, refl, ◌+◌, ◌≡◌}
use Rattle.lower_temporaries.specs.Helpers.{mapped_ids}
use Rattle.lower_temporaries.proofs.Takings.{reads-as, reads-ids, reads-then}
use Rattle.lower_rest_assignments.proofs.values.assign_rest.Goals as goal

pub returns-clause-reads : goal.returns-clause-reads
returns-clause-reads c =
    let valued = c.new_rest_value.new.ctx in
    let more = mapped_ids c.args.is_read in
    let ids : 1 + (5 + more + 1) ≡ 7 + more = omega arith in
    reads-as (1 + (5 + more + 1)) (7 + more) ids
    (reads-then {m = 1} {n = 5 + more + 1} c.in_ok-again.ensures.reads (reads-then {m = 5 + more} {n = 1} c.in_ok-value.ensures.reads
    (reads-ids 1 valued _ c.new_assignment_expression.ensures.counted refl (record { used = λ x. refl; made_is = refl }) (record { state = refl; options = refl; around = refl; scopes = refl; place = refl }))))
