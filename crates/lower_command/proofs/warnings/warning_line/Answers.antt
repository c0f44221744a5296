use Rattle.std.proofs.Common.{◌∙◌, append_assoc}
use Rattle.std.proofs.lemmas.Result.{IfOk-weaker}
use Rattle.lower_command.proofs.warnings.warning_line.Goals as goal

pub returns : goal.returns
returns c = IfOk-weaker c.format.result _ _ (λ text is. is ∙ rw c.warning_name-what.ensures (simp append_assoc)) c.format.ensures.ok
