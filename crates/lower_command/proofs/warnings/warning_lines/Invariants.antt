use Rattle.std.proofs.Common.{◌≡◌, take}
use Rattle.std.specs.Prelude.{string_bytes}
use Rattle.lower_command.specs.Answer.{warning_lines}
use Rattle.lower_command.proofs.warnings.warning_lines.Given as goal

abbrev pub invariant-loop-warning : goal.invariant-loop-warning
invariant-loop-warning l = string_bytes l.lines ≡ warning_lines (take l.warning-index l.warnings)
