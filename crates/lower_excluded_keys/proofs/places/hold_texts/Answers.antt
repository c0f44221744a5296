use Rattle.std.proofs.Common.{◌∙◌, arith}
use Rattle.lower_excluded_keys.proofs.Calls.{some-texts}
use Rattle.lower_excluded_keys.proofs.places.hold_texts.Goals as goal

pub returns-in_default : goal.returns-in_default
returns-in_default c = c.are_texts.ensures ∙ some-texts c.args.fields.now (omega (arith, c.in_default.len_at_least))
