use Rattle.std.proofs.Common.{refl}
use Rattle.es_expressions.specs.declared.operations.SequenceExpression.{SequenceExpression}
use Rattle.lower_temporaries.specs.Declarators.{bound_as}
use Rattle.lower_temporaries.proofs.Takings.{reads-ids}
use Rattle.lower_rest_assignments.proofs.Opened.{assignment-opens}
use Rattle.lower_rest_assignments.proofs.Rows.{left-lowerable, lowered-assignment, pattern-room, pattern-there, sequence-room, store-room, value-room}
use Rattle.lower_rest_assignments.proofs.assignments.lower_assignment.Goals as goal

pub open-operator-requires : goal.open-operator-requires
open-operator-requires c = assignment-opens c.args.node c.requires.lowerable

pub store-requires-clause-room : goal.store-requires-clause-room
store-requires-clause-room c = store-room c.open-operator.result c.args.node c.open-operator.ensures c.requires.lowerable c.args.ctx.now c.requires.room

pub add_pattern-requires : goal.add_pattern-requires
add_pattern-requires c =
    let e = c.open-operator.result in
    let t = c.args.node in
    let opened = c.open-operator.ensures in
    let old = c.args.ctx.now in
    let stored = c.store.new.ctx in
    record {
      lowerable = left-lowerable e t opened c.requires.lowerable;
      there = pattern-there e t opened c.requires.lowerable old c.requires.room stored c.in_ok-name.field-0 c.in_ok-name.ensures c.requires.there;
      room = pattern-room e t opened c.requires.lowerable old c.requires.room stored c.in_ok-name.field-0 c.in_ok-name.ensures;
    }

pub add_value-requires : goal.add_value-requires
add_value-requires c = record { room = value-room c.open-operator.result c.args.node c.open-operator.ensures c.requires.lowerable c.args.ctx.now c.requires.room c.store.new.ctx c.in_ok-name.field-0 c.in_ok-name.ensures (bound_as c.in_ok-name.field-0.name) c.add_pattern.new.ctx c.in_ok-first.first.items c.in_ok-assignments.assignments.items c.in_ok-assignments.ensures }

pub new_sequence_expression-requires : goal.new_sequence_expression-requires
new_sequence_expression-requires c =
    sequence-room c.open-operator.result c.args.node c.open-operator.ensures c.requires.lowerable c.args.ctx.now c.requires.room c.store.new.ctx c.in_ok-name.field-0 c.in_ok-name.ensures (bound_as c.in_ok-name.field-0.name) c.add_pattern.new.ctx c.in_ok-first.first.items c.in_ok-assignments.assignments.items c.in_ok-assignments.ensures
    c.add_value.new.ctx c.is_unused-unused.result c.in_ok-expressions.expressions.items c.in_ok-expressions.ensures

pub returns : goal.returns
returns c =
    let e = c.open-operator.result in
    let valued = c.add_value.new.ctx in
    let q : SequenceExpression = record { id = record { 0 = valued.ast.next }; span = e.span; expressions = c.in_ok-expressions.expressions } in
    lowered-assignment e c.args.node c.open-operator.ensures c.requires.lowerable c.args.ctx.now c.store.new.ctx c.add_pattern.new.ctx valued _ c.in_ok-name.field-0 q c.is_unused-unused.result c.in_ok-first.first.items c.in_ok-assignments.assignments.items c.in_ok-name.ensures c.in_ok-assignments.ensures c.in_ok-expressions.ensures c.in_ok-first.ensures.items
    c.in_ok-sequence.sequence c.requires.on c.is_unused-unused.ensures (reads-ids 1 valued _ c.in_ok-sequence.ensures.counted refl (record { used = λ x. refl; made_is = refl }) (record { state = refl; options = refl; around = refl; scopes = refl; place = refl })) refl c.in_ok-sequence.ensures.made
