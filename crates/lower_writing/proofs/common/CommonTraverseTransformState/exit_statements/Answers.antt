use Rattle.std.proofs.Common.{◌∙◌, sym}
use Rattle.es_tree.specs.Tree.{trees}
use Rattle.es_resolution.specs.Seen.{seen_among}
use Rattle.lower_temporaries.specs.Takings.{moment_of}
use Rattle.lower_writing.proofs.ListHooks.{exited-inner, exited-outermost, hooks-kept, kept-inner}
use Rattle.lower_writing.proofs.common.CommonTraverseTransformState.exit_statements.Goals as goal

pub returns-then-is_outermost-clause-exited : goal.returns-then-is_outermost-clause-exited
returns-then-is_outermost-clause-exited c names = exited-outermost _ _ _ (sym c.is_outermost.ensures ∙ c.if-is_outermost.true)

pub returns-clause-kept : goal.returns-clause-kept
returns-clause-kept c =
    let done = c.in_ok-write_pending.ensures in
    kept-inner (moment_of c.args.ctx.now) (moment_of c.write_pending.new.ctx) (trees c.args.statements.now.items) (trees c.write_pending.new.statements.items) c.requires.ready.pair
    (sym c.is_outermost.ensures ∙ c.if-is_outermost.false) done.moment done.written

pub returns-clause-exited : goal.returns-clause-exited
returns-clause-exited c names =
    let done = c.in_ok-write_pending.ensures in
    exited-inner c.args.ctx.now.options (moment_of c.args.ctx.now) (moment_of c.write_pending.new.ctx) (seen_among names (trees c.args.statements.now.items)) (seen_among names (trees c.write_pending.new.statements.items))
    (sym c.is_outermost.ensures ∙ c.if-is_outermost.false) done.inert done.moment (done.written names) (hooks-kept names (trees c.args.statements.now.items) (trees c.write_pending.new.statements.items) done.ids)
