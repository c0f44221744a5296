use Rattle.std.proofs.Common.{◌∙◌, sym, arith}
use Rattle.lower_temporaries.proofs.ReadAgain.{some_expressions, two_parts}
use Rattle.lower_temporaries.proofs.readings.is_part_alone.Goals as goal

pub returns-else-is_empty : goal.returns-else-is_empty
returns-else-is_empty c = c.if-is_empty.false ∙ sym (some_expressions c.args.parts.now c.args.expressions.now (sym c.is_empty.ensures ∙ c.if-is_empty.false))

pub returns-in_default-2 : goal.returns-in_default-2
returns-in_default-2 c = sym (two_parts c.args.parts.now c.args.expressions.now (omega (arith, c.in_default.len_at_least)))
