use Rattle.std.proofs.Common.{arith, sym}
use Rattle.lower_temporaries.proofs.TwoFields.{fewer_than_two, more_than_two}
use Rattle.lower_rest_assignments.proofs.constructs.takes_pattern.Goals as goal

pub returns-in_default : goal.returns-in_default
returns-in_default c = sym (fewer_than_two _ c.args.fields.now (omega (arith, c.in_default.len_below)))

pub returns-in_default-4 : goal.returns-in_default-4
returns-in_default-4 c = sym (more_than_two _ c.args.fields.now (omega (arith, c.in_default.len_at_least)))
