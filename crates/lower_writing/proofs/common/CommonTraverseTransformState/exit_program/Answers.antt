use Rattle.std.proofs.Common.{◌∙◌, ap, List}
use Rattle.es_tree.specs.Tree.{label_of, trees}
use Rattle.es_resolution.specs.Seen.{seen, seen_among}
use Rattle.es_statements.specs.ProgramPlain.{plain_program}
use Rattle.es_steps.specs.Open.{Pending}
use Rattle.es_changes.specs.Moments.{with_lists, with_pair}
use Rattle.lower_temporaries.specs.Takings.{moment_of}
use Rattle.lower_writing.proofs.ListHooks.{exited-program, kept-program}
use Rattle.lower_writing.proofs.common.CommonTraverseTransformState.exit_program.Goals as goal

pub returns-clause-kept : goal.returns-clause-kept
returns-clause-kept c =
    let done = c.in_ok-write_pending.ensures in
    kept-program (moment_of c.args.ctx.now) _ (label_of (plain_program c.args.program.now)) (trees c.args.program.now.directives.items) (trees c.args.program.now.body.items) (trees c.write_pending.new.statements.items) c.requires.ready.pair
    (ap (λ (ps : List Pending). with_lists ps (moment_of c.write_pending.new.ctx)) c.in_ok-record_entering_statements.ensures.entered ∙ ap with_pair done.moment) done.written

pub returns-clause-exited : goal.returns-clause-exited
returns-clause-exited c names =
    let done = c.in_ok-write_pending.ensures in
    exited-program c.args.ctx.now.options (moment_of c.args.ctx.now) _ (label_of (seen names (plain_program c.args.program.now))) (seen_among names (trees c.args.program.now.directives.items)) (seen_among names (trees c.args.program.now.body.items))
    (seen_among names (trees c.write_pending.new.statements.items)) done.inert
    (ap (λ (ps : List Pending). with_lists ps (moment_of c.write_pending.new.ctx)) c.in_ok-record_entering_statements.ensures.entered ∙ ap with_pair done.moment) (done.written names)
