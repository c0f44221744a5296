use Rattle.std.proofs.Common.{refl}
use Rattle.lower_temporaries.proofs.Takings.{reads-ids, reads-then}
use Rattle.lower_rest_assignments.proofs.values.assign_source.Goals as goal

pub returns-clause-reads : goal.returns-clause-reads
returns-clause-reads c =
    let mid = c.read.new.ctx in
    reads-then {m = 1} {n = 1} c.in_ok-value.ensures.reads (reads-ids 1 mid _ c.new_assignment_expression.ensures.counted refl (record { used = λ x. refl; made_is = refl }) (record { state = refl; options = refl; around = refl; scopes = refl; place = refl }))
