use Rattle.std.proofs.Common.{◌∙◌, ap, sym}
use Rattle.es_runs.proofs.Named.{and_left, and_right}
use Rattle.es_traverse.specs.Laws.{is_construct}
use Rattle.lower_temporaries.specs.Takings.{moment_of}
use Rattle.lower_rest_assignments.specs.Assignments.{is_lowerable_assignment}
use Rattle.lower_rest_assignments.proofs.Hook.{entered-lowered, kept-lowered, left}
use Rattle.lower_rest_assignments.proofs.RestAssignmentEntersTransformState.enter.Goals as goal

pub returns-then-not-lowers-clause-entered : goal.returns-then-not-lowers-clause-entered
returns-then-not-lowers-clause-entered c = left c.args.ctx.now.options c.args.self.now.is_on c.requires.ready.suited (moment_of c.args.ctx.now) c.args.expression.now (sym c.lowers.ensures ∙ c.if-not-lowers.true)

pub lower_assignment-requires-clause-on : goal.lower_assignment-requires-clause-on
lower_assignment-requires-clause-on c = sym c.requires.ready.suited ∙ and_left c.args.self.now.is_on (is_construct is_lowerable_assignment c.args.expression.now) (sym c.lowers.ensures ∙ c.if-not-lowers.false)

pub lower_assignment-requires-clause-lowerable : goal.lower_assignment-requires-clause-lowerable
lower_assignment-requires-clause-lowerable c = ap (is_construct is_lowerable_assignment) c.replace-taken.ensures.value ∙ and_right c.args.self.now.is_on (is_construct is_lowerable_assignment c.args.expression.now) (sym c.lowers.ensures ∙ c.if-not-lowers.false)

pub returns-clause-kept : goal.returns-clause-kept
returns-clause-kept c = kept-lowered c.args.ctx.now c.lower_assignment.new.ctx c.args.expression.now c.replace-taken.result c.in_ok-expression.field-0 c.replace-taken.ensures.value c.requires.ready.pair c.in_ok-expression.ensures

pub returns-clause-entered : goal.returns-clause-entered
returns-clause-entered c =
    let both = sym c.lowers.ensures ∙ c.if-not-lowers.false in
    let lowerable = is_construct is_lowerable_assignment c.args.expression.now in
    entered-lowered c.args.ctx.now c.lower_assignment.new.ctx c.args.expression.now c.replace-taken.result c.in_ok-expression.field-0 c.replace-taken.ensures.value c.requires.ready.pair c.in_ok-expression.ensures (sym c.requires.ready.suited ∙ and_left c.args.self.now.is_on lowerable both) (and_right c.args.self.now.is_on lowerable both)
