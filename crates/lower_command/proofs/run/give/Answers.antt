use Rattle.std.proofs.lemmas.Result.{err_from_is_err_and}
use Rattle.lower_command.proofs.Outcome.{front_of_notes}
use Rattle.lower_command.proofs.run.give.Goals as goal

pub returns-in_err-write_all-2-clause-front : goal.returns-in_err-write_all-2-clause-front
returns-in_err-write_all-2-clause-front g c =
    let failed = err_from_is_err_and c.from_residual-in_err-write_all-2.result c.from_residual-in_err-write_all-2.ensures.1 in
    let output = rw c.output.ensures at c.in_ok-write_all.ensures.whole in
    let notes = rw c.notes.ensures at c.in_err-write_all-2.ensures.part in
    rw failed.1 (front_of_notes c.args.answer.now _ _ _ _ notes.0 output notes.1 notes.2 c.in_err-write_all-2.ensures.cause)
