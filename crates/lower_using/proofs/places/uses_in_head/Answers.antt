use Rattle.std.proofs.Common.{◌∙◌, ap, arith, sym}
use Rattle.es_tree.specs.Views.{plain_field}
use Rattle.lower_using.specs.Parts.{head_is_used}
use Rattle.lower_using.proofs.PlaceTests.{head-of-four, long-head, short-head}
use Rattle.lower_using.proofs.places.uses_in_head.Goals as goal

pub returns-in-len4 : goal.returns-in-len4
returns-in-len4 c = c.head_is_used.ensures ∙ (ap (λ f. head_is_used (plain_field f)) c.head-item.is ∙ head-of-four c.args.fields.now _ c.in-len4.len_at_least c.in-len4.len_below)

pub returns-in_default : goal.returns-in_default
returns-in_default c = sym (short-head c.args.fields.now (omega (arith, c.in_default.len_below)))

pub returns-in_default-2 : goal.returns-in_default-2
returns-in_default-2 c = sym (long-head c.args.fields.now (omega (arith, c.in_default.len_at_least)))
