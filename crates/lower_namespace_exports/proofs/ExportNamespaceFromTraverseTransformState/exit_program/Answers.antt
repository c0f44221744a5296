use Rattle.std.proofs.Common.{◌∙◌, subst, sym}
use Rattle.es_tree.specs.Tree.{label_of, trees}
use Rattle.es_resolution.specs.Seen.{seen, seen_among}
use Rattle.es_statements.specs.ProgramPlain.{plain_program}
use Rattle.lower_temporaries.specs.Takings.{moment_of}
use Rattle.lower_namespace_exports.specs.Lowered.{Lowered}
use Rattle.lower_namespace_exports.proofs.Hook.{exited-off, exited-on}
use Rattle.lower_namespace_exports.proofs.Shown.{shown}
use Rattle.lower_namespace_exports.proofs.Weighed.{ids-program, kept-program, lists-lowered}
use Rattle.lower_namespace_exports.proofs.ExportNamespaceFromTraverseTransformState.exit_program.Goals as goal

pub returns-then-not-self-clause-exited : goal.returns-then-not-self-clause-exited
returns-then-not-self-clause-exited c names = exited-off c.args.ctx.now.options (sym c.requires.ready.suited ∙ c.if-not-self.true) (moment_of c.args.ctx.now) (seen names (plain_program c.args.program.now))

pub returns-clause-kept : goal.returns-clause-kept
returns-clause-kept c =
    let p = c.args.program.now in
    let lowered = subst (λ ts. Lowered (moment_of c.args.ctx.now) (trees ts.items) (moment_of c.lower_statements.new.ctx) (trees c.in_ok-lowered.lowered.items)) c.replace-statements.ensures.value c.in_ok-lowered.ensures.lowered in
    kept-program (label_of (plain_program p)) (trees p.directives.items) lowered

pub returns-clause-ids : goal.returns-clause-ids
returns-clause-ids c =
    let p = c.args.program.now in
    let lowered = subst (λ ts. Lowered (moment_of c.args.ctx.now) (trees ts.items) (moment_of c.lower_statements.new.ctx) (trees c.in_ok-lowered.lowered.items)) c.replace-statements.ensures.value c.in_ok-lowered.ensures.lowered in
    ids-program (label_of (plain_program p)) (trees p.directives.items) lowered

pub returns-clause-exited : goal.returns-clause-exited
returns-clause-exited c names =
    let p = c.args.program.now in
    let a = moment_of c.args.ctx.now in
    let b = moment_of c.lower_statements.new.ctx in
    let us = trees c.in_ok-lowered.lowered.items in
    let lowered = subst (λ ts. Lowered a (trees ts.items) b us) c.replace-statements.ensures.value c.in_ok-lowered.ensures.lowered in
    exited-on c.args.ctx.now.options (sym c.requires.ready.suited ∙ c.if-not-self.false) a b (label_of (seen names (plain_program p))) (seen_among names (trees p.directives.items)) (seen_among names (trees p.body.items)) (seen_among names us) (lists-lowered lowered) (shown names lowered)
