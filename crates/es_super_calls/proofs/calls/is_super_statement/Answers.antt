use Rattle.std.proofs.Common.{ap, arith, length, sym}
use Rattle.es_super_calls.proofs.CallTests.{statement-more}
use Rattle.es_super_calls.proofs.calls.is_super_statement.Goals as goal

pub returns-in_default-3 : goal.returns-in_default-3
returns-in_default-3 c =
    let x = c.node.inside in
    rw (← c.node.view_is, c.in_default.is-0) (sym (statement-more x.id x.span x.fields.items (omega (arith, c.in_default.len_at_least, ap length c.as_slice.ensures.value))))
