use Rattle.std.proofs.Common.{ap, arith, refl, ◌+◌, ◌≡◌}
use Rattle.es_changes.specs.Moments.{Moment}
use Rattle.lower_temporaries.proofs.Takings.{reads-ids, reads-then}
use Rattle.lower_temporaries.proofs.helpers.new_whole_value.Goals as goal

pub new_helper-requires : goal.new_helper-requires
new_helper-requires c =
    let first = ap (λ (a : Moment). a.next) c.in_ok-asked.ensures.reads.moment_is in
    record { room = omega (arith, first, c.requires.room) }

pub new_sequence_expression-requires : goal.new_sequence_expression-requires
new_sequence_expression-requires c =
    let first = ap (λ (a : Moment). a.next) c.in_ok-asked.ensures.reads.moment_is in
    let second = ap (λ (a : Moment). a.next) c.in_ok-callee.ensures.reads.moment_is in
    omega (arith, first, second, c.requires.room)

pub new_object_expression-requires : goal.new_object_expression-requires
new_object_expression-requires c =
    let first = ap (λ (a : Moment). a.next) c.in_ok-asked.ensures.reads.moment_is in
    let second = ap (λ (a : Moment). a.next) c.in_ok-callee.ensures.reads.moment_is in
    omega (arith, first, second, c.requires.room, c.new_sequence_expression.ensures.counted)

pub new_call_expression-requires : goal.new_call_expression-requires
new_call_expression-requires c =
    let first = ap (λ (a : Moment). a.next) c.in_ok-asked.ensures.reads.moment_is in
    let second = ap (λ (a : Moment). a.next) c.in_ok-callee.ensures.reads.moment_is in
    omega (arith, first, second, c.requires.room, c.new_sequence_expression.ensures.counted, c.new_object_expression.ensures.counted)

pub returns-clause-reads : goal.returns-clause-reads
returns-clause-reads c =
    let mid = c.new_helper.new.ctx in
    let counted : c.new_call_expression.new.ast.next ≡ mid.ast.next + 3 = omega (arith, c.new_sequence_expression.ensures.counted, c.new_object_expression.ensures.counted, c.new_call_expression.ensures.counted) in
    reads-then {m = 4} {n = 6} c.in_ok-asked.ensures.reads (reads-then {m = 3} {n = 3} c.in_ok-callee.ensures.reads (reads-ids 3 mid _ counted refl (record { used = λ x. refl; made_is = refl }) (record { state = refl; options = refl; around = refl; scopes = refl; place = refl })))
