use Rattle.std.proofs.Common.{◌≡◌, ◌-◌, ◌≤◌, [], length, take}
use Rattle.std.specs.Io.KnownBytes.{append_known}
use Rattle.lower_command.proofs.writing.write_all.Given as goal

abbrev pub invariant-loop-done : goal.invariant-loop-done
invariant-loop-done g l = record {
  part : l.done ≤ length l.text;
  taken : g.K.Sink.taken l.sink ≡ append_known (g.K.Sink.taken l.fn.sink) (take l.done l.text);
  rises : g.K.Sink.faults l.fn.sink ≤ g.K.Sink.faults l.sink;
  nothing : l.text ≡ [] → l.sink ≡ l.fn.sink;
}

abbrev pub decreases-loop-done : goal.decreases-loop-done
decreases-loop-done g l = length l.text - l.done
