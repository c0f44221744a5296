use Rattle.std.proofs.Common.{◌∙◌, string_bytes, subst, sym}
use Rattle.lower_using.specs.Parts.{BecomesBy, used_with}
use Rattle.lower_using.proofs.Names.{makes-one}
use Rattle.lower_using.proofs.UsedNodes.{becomes}
use Rattle.lower_using.proofs.nodes.use_here.Goals as goal

pub returns : goal.returns
returns c =
    let s = c.args.standing in
    let x = string_bytes c.in_ok-context.context in
    let u = c.in_ok-node.field-0 in
    let named = subst (λ y. BecomesBy y (used_with s) c.replace-taken.result u) c.as_str.ensures.value c.in_ok-node.ensures in
    becomes s c.args.uids.now c.generate.new.self x c.args.node.now u (sym c.uses_here.ensures ∙ c.if-not-uses_here.false)
    (makes-one c.args.uids.now c.generate.new.self x c.in_ok-context.ensures.fresh c.in_ok-context.ensures.taken c.in_ok-context.ensures.made) (subst (λ t. BecomesBy x (used_with s) t u) c.replace-taken.ensures.value named)
