use Rattle.std.proofs.Common.{◌≡◌, ◌+◌, ◌∙◌, arith, refl}
use Rattle.std.proofs.lemmas.Result.{IfOk-weaker}
use Rattle.lower_command.proofs.generated.new_chaining.Goals as goal

pub returns-clause-made : goal.returns-clause-made
returns-clause-made c =
    let id = c.args.ast.now.next in
    let second : c.new_id-chain.result.0 ≡ id + 1 = omega arith in
    let third : c.new_id-outer.result.0 ≡ id + 2 = omega arith in
    let fourth : c.new_id-outer.new.self.next ≡ id + 3 = omega arith in
    let last : c.new_object_member.new.ast.next ≡ id + 6 = omega (arith, c.in_ok-object.ensures.counted) in
    IfOk-weaker c.close-3.result _ _
    (λ node made. made ∙ rw (c.in_ok-close-2.ensures, c.in_ok-close.ensures, c.in_ok-object.ensures.made, c.in_ok-property.ensures.made, c.new_id-id.ensures.id, second, third, fourth, last) refl)
    c.close-3.ensures
