use Rattle.std.proofs.Common.{◌∙◌, sym}
use Rattle.es_resolution.specs.Seen.{seen}
use Rattle.es_traverse.proofs.Kept.{body-seen}
use Rattle.lower_temporaries.specs.Takings.{moment_of}
use Rattle.lower_writing.proofs.ListHooks.{exited-body, hooks-kept-in, kept-body}
use Rattle.lower_writing.proofs.common.CommonTraverseTransformState.exit_arrow_function_body.Goals as goal

pub returns-clause-kept : goal.returns-clause-kept
returns-clause-kept c =
    let done = c.in_ok-write_body.ensures in
    kept-body (moment_of c.args.ctx.now) (moment_of c.write_body.new.ctx) c.args.body.now c.write_body.new.body c.requires.ready.pair (sym c.is_statement_body.ensures ∙ c.if-is_statement_body.false) done.moment done.written

pub returns-clause-exited : goal.returns-clause-exited
returns-clause-exited c names =
    let done = c.in_ok-write_body.ensures in
    exited-body c.args.ctx.now.options _ (moment_of c.args.ctx.now) (moment_of c.write_body.new.ctx) (seen names c.args.body.now) (seen names c.write_body.new.body)
    (body-seen names c.args.body.now ∙ sym c.is_statement_body.ensures ∙ c.if-is_statement_body.false) done.inert done.moment (done.written names) (hooks-kept-in names c.args.body.now c.write_body.new.body done.ids)
