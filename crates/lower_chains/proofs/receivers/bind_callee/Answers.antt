use Rattle.std.proofs.Common.{◌∙◌, sym}
use Rattle.es_resolution.specs.Seen.{seen}
use Rattle.lower_chains.specs.Ways.{held}
use Rattle.lower_chains.proofs.Receiving.{bound-other}
use Rattle.lower_chains.proofs.SeenSpines.{plain_member-seen}
use Rattle.lower_chains.proofs.receivers.bind_callee.Goals as goal

pub returns-else-is_plain_member : goal.returns-else-is_plain_member
returns-else-is_plain_member c = λ names. bound-other c.args.ctx.now (held c.args.holder.now) (seen names c.args.current) (plain_member-seen names c.args.current ∙ sym c.is_plain_member.ensures ∙ c.if-is_plain_member.false)
