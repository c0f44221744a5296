use Rattle.std.proofs.Common.{◌≡◌, ◌++◌, string_bytes, reverse, length}
use Rattle.es_json.specs.Pointer.{pointer}
use Rattle.es_json.proofs.pointer.pointer.Given as goal

abbrev pub invariant-loop-step : goal.invariant-loop-step
invariant-loop-step l = string_bytes l.text ++ pointer (reverse l.steps.items) ≡ pointer (reverse l.initial.steps.items)

abbrev pub decreases-loop-step : goal.decreases-loop-step
decreases-loop-step l = length l.steps.items
