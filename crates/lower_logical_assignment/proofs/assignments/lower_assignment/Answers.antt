use Rattle.std.proofs.Common.{◌∙◌, refl, ap, arith}
use Rattle.lower_temporaries.specs.SeenTrees.{no_bindings}
use Rattle.lower_temporaries.proofs.Takings.{reads-ids}
use Rattle.lower_logical_assignment.specs.Assignments.{is_duplicated_target}
use Rattle.lower_logical_assignment.proofs.Replaced.{heavy, replaced-assignment, target-in}
use Rattle.lower_logical_assignment.proofs.assignments.lower_assignment.Goals as goal

pub duplicate_target-requires-clause-target : goal.duplicate_target-requires-clause-target
duplicate_target-requires-clause-target c = ap is_duplicated_target c.take_from_parens-target.ensures ∙ target-in c.args.node c.open-operator.result c.open-operator.ensures c.requires.lowerable

pub new_assigned-requires : goal.new_assigned-requires
new_assigned-requires c =
    let d = c.in_ok-read.ensures no_bindings in
    let most = heavy c.args.node c.open-operator.result c.open-operator.ensures c.requires.lowerable in
    record { room = omega (arith, d.takes.next_is, d.few, most, c.requires.room) }

pub returns-clause-replaced : goal.returns-clause-replaced
returns-clause-replaced c names =
    let mid = c.duplicate_target.new.ctx in
    let new = record mid { ast = c.new_assigned.new.ast } in
    replaced-assignment c.args.ctx.now mid new names c.args.node c.take_from_parens-target.result c.in_ok-read.read c.in_ok-read.written c.in_ok-made.made c.open-operator.result c.test_operator-operator.result c.open-operator.ensures c.requires.lowerable c.take_from_parens-target.ensures (c.in_ok-read.ensures names)
    (reads-ids 2 mid new c.in_ok-made.ensures.counted refl (record { used = λ x. refl; made_is = refl }) (record { state = refl; options = refl; around = refl; scopes = refl; place = refl })) c.test_operator-operator.ensures (c.in_ok-made.ensures.made names)
