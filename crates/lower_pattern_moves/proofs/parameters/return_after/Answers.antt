use Rattle.std.proofs.Common.{◌∙◌}
use Rattle.lower_pattern_moves.proofs.MovedParameters.{value-put}
use Rattle.lower_pattern_moves.proofs.parameters.return_after.Goals as goal

pub returns : goal.returns
returns c =
    c.in_ok-made.ensures ∙ value-put c.id_of-id.result.0 c.args.declared.items c.push.new.self.items c.args.value c.in_ok-returned.returned c.id_of-id.ensures c.in_ok-returned.ensures c.in_ok-push.ensures.items
