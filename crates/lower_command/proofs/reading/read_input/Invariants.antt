use Rattle.std.proofs.Common.{◌≡◌, ◌+◌, ◌-◌, ◌^◌, ◌≤◌, vec_len}
use Rattle.std.specs.Io.KnownBytes.{prepend_known}
use Rattle.lower_command.proofs.reading.read_input.Given as goal

abbrev pub invariant-loop-bytes : goal.invariant-loop-bytes
invariant-loop-bytes g l = record {
  read : g.S.Source.left l.fn.input ≡ prepend_known l.bytes.items (g.S.Source.left l.input);
  short : vec_len l.bytes ≤ 2 ^ 26 + 1;
  block : vec_len l.block ≡ 2 ^ 16;
  rises : g.S.Source.faults l.fn.input ≤ g.S.Source.faults l.input;
}

abbrev pub decreases-loop-bytes : goal.decreases-loop-bytes
decreases-loop-bytes g l = 2 ^ 26 + 1 - vec_len l.bytes
