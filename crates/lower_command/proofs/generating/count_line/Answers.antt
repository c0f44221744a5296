use Rattle.std.proofs.Common.{◌≡◌, length, string_bytes, ◌∙◌, append_assoc, arith}
use Rattle.std.proofs.lemmas.Result.{IfOk-weaker}
use Rattle.lower_command.specs.Answer.{generated_line}
use Rattle.lower_command.proofs.Scripts.{same_line}
use Rattle.lower_command.proofs.generating.count_line.Goals as goal

pub returns : goal.returns
returns c =
    let l = c.args.lowered.now in
    let names : c.len-temporaries.result ≡ length l.temporaries.items = omega (arith, l.temporaries.ok) in
    let warnings : c.len-warnings.result ≡ length l.warnings.items = omega (arith, l.warnings.ok) in
    IfOk-weaker c.format.result _ _
    (λ text is.
    let line : string_bytes text ≡ generated_line c.args.count c.args.before c.count_nodes-after.result c.len-temporaries.result c.len-warnings.result =
    is ∙ simp append_assoc in
    line ∙ same_line _ _ _ _ _ _ _ _ c.count_nodes-after.ensures names warnings)
    c.format.ensures.ok
