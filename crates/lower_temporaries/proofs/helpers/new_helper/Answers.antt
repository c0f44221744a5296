use Rattle.std.proofs.Common.{arith, refl, ◌+◌, ◌≡◌}
use Rattle.lower_temporaries.proofs.Takings.{reads-ids, reads-then}
use Rattle.lower_temporaries.proofs.helpers.new_helper.Goals as goal

pub returns-clause-reads : goal.returns-clause-reads
returns-clause-reads c =
    let mid = c.read_name.new.ctx in
    let counted : c.new_member_expression.new.ast.next ≡ mid.ast.next + 2 = omega (arith, c.new_identifier.ensures.counted, c.new_member_expression.ensures.counted) in
    reads-then {m = 1} {n = 2} c.in_ok-object.ensures.reads (reads-ids 2 mid _ counted refl (record { used = λ x. refl; made_is = refl }) (record { state = refl; options = refl; around = refl; scopes = refl; place = refl }))
