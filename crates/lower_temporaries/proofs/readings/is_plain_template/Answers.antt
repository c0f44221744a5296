use Rattle.std.proofs.Common.{sym, arith}
use Rattle.lower_temporaries.proofs.ReadAgain.{long_template, short_template}
use Rattle.lower_temporaries.proofs.readings.is_plain_template.Goals as goal

pub returns-in_default : goal.returns-in_default
returns-in_default c = sym (short_template c.args.fields.now (omega (arith, c.in_default.len_below)))

pub returns-in_default-4 : goal.returns-in_default-4
returns-in_default-4 c = sym (long_template c.args.fields.now (omega (arith, c.in_default.len_at_least)))
