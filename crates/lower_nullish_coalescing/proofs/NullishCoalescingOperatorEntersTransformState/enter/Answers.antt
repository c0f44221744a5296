use Rattle.std.proofs.Common.{◌∙◌, ap, sym}
use Rattle.es_runs.proofs.Named.{and_left, and_right}
use Rattle.es_steps.specs.NullishCoalescing.{NullishCoalescingRule}
use Rattle.es_traverse.specs.Laws.{anything, is_construct}
use Rattle.lower_temporaries.specs.Takings.{moment_of}
use Rattle.lower_temporaries.proofs.RowProfiles.{row-kept}
use Rattle.lower_nullish_coalescing.specs.Coalescings.{is_lowerable_coalescing}
use Rattle.lower_nullish_coalescing.proofs.Hook.{entered, left}
use Rattle.lower_nullish_coalescing.proofs.NullishCoalescingOperatorEntersTransformState.enter.Goals as goal

pub returns-then-not-lowers-clause-entered : goal.returns-then-not-lowers-clause-entered
returns-then-not-lowers-clause-entered c = left c.args.ctx.now.options c.args.self.now.is_on c.requires.ready.suited (moment_of c.args.ctx.now) c.args.expression.now (sym c.lowers.ensures ∙ c.if-not-lowers.true)

pub lower_coalescing-requires-clause-lowerable : goal.lower_coalescing-requires-clause-lowerable
lower_coalescing-requires-clause-lowerable c = ap (is_construct is_lowerable_coalescing) c.replace-taken.ensures.value ∙ and_right c.args.self.now.is_on (is_construct is_lowerable_coalescing c.args.expression.now) (sym c.lowers.ensures ∙ c.if-not-lowers.false)

pub returns-clause-kept : goal.returns-clause-kept
returns-clause-kept c =
    row-kept NullishCoalescingRule (moment_of c.args.ctx.now) (moment_of c.lower_coalescing.new.ctx) c.args.expression.now c.replace-taken.result c.in_ok-expression.field-0 c.replace-taken.ensures.value c.requires.ready.pair anything c.in_ok-expression.ensures.replaced

pub returns-clause-entered : goal.returns-clause-entered
returns-clause-entered c =
    let on = sym c.requires.ready.suited ∙ and_left c.args.self.now.is_on (is_construct is_lowerable_coalescing c.args.expression.now) (sym c.lowers.ensures ∙ c.if-not-lowers.false) in
    entered c.args.ctx.now.options on (moment_of c.args.ctx.now) (moment_of c.lower_coalescing.new.ctx) c.args.expression.now c.replace-taken.result c.in_ok-expression.field-0 c.replace-taken.ensures.value c.requires.ready.pair c.in_ok-expression.ensures.replaced
    c.in_ok-expression.ensures.kinds
