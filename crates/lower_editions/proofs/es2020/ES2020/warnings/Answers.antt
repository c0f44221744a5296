use Rattle.std.proofs.Common.{sym}
use Rattle.lower_editions.proofs.Walked.{none_asked, walked-warnings}
use Rattle.lower_editions.proofs.es2020.ES2020.warnings.Goals.{then-options+in_ok-push_warnings, else-options+else-options-2}
use Rattle.lower_editions.proofs.es2020.ES2020.warnings.Goals as goal

pub returns : goal.returns
returns c =
    let o = c.args.options.now in
    elim c.if-options.branch [
      | then-options+in_ok-push_warnings w ↦ rw (w.warnings-is, w.in_ok-push_warnings.ensures, c.new-warnings.ensures.items) (sym (walked-warnings o c.args.program.now))
      | else-options+else-options-2 w ↦ rw (w.warnings-is, c.new-warnings.ensures.items) (sym (none_asked o c.args.program.now w.if-options.false w.if-options-2.false))
    ]
