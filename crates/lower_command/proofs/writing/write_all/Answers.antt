use Rattle.std.proofs.Common.{length, arith, ap, length-drop}
use Rattle.lower_command.proofs.Known.{rest_of, written_more}
use Rattle.lower_command.proofs.writing.write_all.Goals as goal

pub loop-done-preserved : goal.loop-done-preserved
loop-done-preserved g c =
    let text = c.args.text.now in
    let done = c.loop-done.done in
    record {
      part = omega (arith, c.in_ok-done.ensures.within, ap length (rest_of text done), length-drop done text, c.loop-done.invariant.part);
      taken = written_more _ _ _ text done _ c.loop-done.invariant.taken c.in_ok-done.ensures.takes;
      rises = omega (arith, c.loop-done.invariant.rises, c.write.ensures.rises);
      nothing = λ empty. absurd (omega (arith, ap length empty));
    }
