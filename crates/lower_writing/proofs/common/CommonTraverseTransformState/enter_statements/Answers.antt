use Rattle.std.proofs.Common.{◌∙◌, ap, sym, List}
use Rattle.es_steps.specs.Open.{Pending}
use Rattle.es_changes.specs.Moments.{with_lists}
use Rattle.lower_temporaries.specs.Takings.{moment_of}
use Rattle.lower_writing.proofs.ListHooks.{entered-list}
use Rattle.lower_writing.proofs.Pairs.{no-pair, one-pair}
use Rattle.lower_writing.proofs.common.CommonTraverseTransformState.enter_statements.Goals as goal

pub returns-then-is_outermost-clause-entered : goal.returns-then-is_outermost-clause-entered
returns-then-is_outermost-clause-entered c names = entered-list _ _ _ _ (no-pair _ (sym c.is_outermost.ensures ∙ c.if-is_outermost.true))

pub returns-clause-entered : goal.returns-clause-entered
returns-clause-entered c names =
    entered-list _ _ _ _ (one-pair (moment_of c.args.ctx.now) (sym c.is_outermost.ensures ∙ c.if-is_outermost.false) ∙ ap (λ (ps : List Pending). with_lists ps (moment_of c.args.ctx.now)) (sym c.in_ok-record_entering_statements.ensures.entered))
