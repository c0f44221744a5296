use Rattle.std.proofs.Common.{ap, arith, length, sym}
use Rattle.es_super_calls.proofs.CallTests.{function-fewer}
use Rattle.es_super_calls.proofs.calls.calls_super_before.Goals as goal

pub returns-in_default : goal.returns-in_default
returns-in_default c =
    rw (← c.function.view_is) (sym (function-fewer c.function.inside.fields.items (omega (arith, c.in_default.len_below, ap length c.as_slice.ensures.value))))
