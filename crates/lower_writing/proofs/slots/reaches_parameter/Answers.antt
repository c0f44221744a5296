use Rattle.std.proofs.Common.{◌≡◌, ◌+◌, suc, ap, sym, ◌∙◌, drop, arith}
use Rattle.es_scope.specs.Contexts.{around_of}
use Rattle.lower_temporaries.proofs.Outward.{reaches-found, reaches-left, reaches-outside, reaches-passed}
use Rattle.lower_writing.specs.Slots.{in_parameter, is_parameter_place, is_part_place}
use Rattle.lower_writing.proofs.slots.reaches_parameter.Goals as goal

pub returns-then-is_parameter : goal.returns-then-is_parameter
returns-then-is_parameter g c =
    sym (reaches-found is_parameter_place is_part_place (around_of c.args.ctx.now) c.loop-place.place c.in-Some.ancestor (sym c.in-Some.is ∙ c.ancestor.ensures) (sym c.is_parameter.ensures ∙ c.if-is_parameter.true)) ∙ c.loop-place.invariant

pub returns-then-not-is_part : goal.returns-then-not-is_part
returns-then-not-is_part g c =
    sym (reaches-left is_parameter_place is_part_place (around_of c.args.ctx.now) c.loop-place.place c.in-Some.ancestor (sym c.in-Some.is ∙ c.ancestor.ensures) (sym c.is_parameter.ensures ∙ c.if-is_parameter.false) (sym c.is_part.ensures ∙ c.if-not-is_part.true)) ∙ c.loop-place.invariant

pub loop-place-preserved : goal.loop-place-preserved
loop-place-preserved g c =
    let xs = around_of c.args.ctx.now in
    let next : suc c.loop-place.place ≡ c.loop-place.place + 1 = omega arith in
    sym (ap (λ i. in_parameter (drop i xs)) next)
    ∙ sym (reaches-passed is_parameter_place is_part_place xs c.loop-place.place c.in-Some.ancestor (sym c.in-Some.is ∙ c.ancestor.ensures) (sym c.is_parameter.ensures ∙ c.if-is_parameter.false) (sym c.is_part.ensures ∙ c.if-not-is_part.false))
    ∙ c.loop-place.invariant

pub returns-in_default : goal.returns-in_default
returns-in_default g c =
    sym (reaches-outside is_parameter_place is_part_place (around_of c.args.ctx.now) c.loop-place.place (sym c.in_default.is ∙ c.ancestor.ensures)) ∙ c.loop-place.invariant
