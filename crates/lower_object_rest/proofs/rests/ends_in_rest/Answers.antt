use Rattle.std.proofs.Common.{arith, length, ◌-◌, ◌∙◌}
use Rattle.lower_object_rest.proofs.Opened.{last-item}
use Rattle.lower_object_rest.proofs.rests.ends_in_rest.Goals as goal

pub returns-in-len1-up : goal.returns-in-len1-up
returns-in-len1-up c = c.is_named_rest.ensures ∙ last-item c.args.members.now (length c.args.members.now - 1) c.last-item.result (omega (arith, c.in-len1-up.len_at_least)) c.last-item.is
