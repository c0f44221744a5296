use Rattle.std.proofs.Common.{arith, refl}
use Rattle.lower_temporaries.proofs.Takings.{reads-ids, reads-then}
use Rattle.lower_temporaries.proofs.helpers.new_emptied.Goals as goal

pub returns-clause-reads : goal.returns-clause-reads
returns-clause-reads c =
    let mid = c.new_helper.new.ctx in
    reads-then {m = 3} {n = 1} c.in_ok-callee.ensures.reads (reads-ids 1 mid _ c.new_call_expression.ensures.counted refl (record { used = λ x. refl; made_is = refl }) (record { state = refl; options = refl; around = refl; scopes = refl; place = refl }))
