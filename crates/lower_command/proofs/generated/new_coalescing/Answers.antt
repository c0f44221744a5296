use Rattle.std.proofs.Common.{◌≡◌, ◌+◌, ◌∙◌, arith, refl}
use Rattle.std.proofs.lemmas.Result.{IfOk-weaker}
use Rattle.lower_command.proofs.generated.new_coalescing.Goals as goal

pub returns-clause-made : goal.returns-clause-made
returns-clause-made c =
    let id = c.args.ast.now.next in
    let second : c.new_id-assignment.result.0 ≡ id + 1 = omega arith in
    let third : c.new_id-assignment.new.self.next ≡ id + 2 = omega arith in
    let fourth : c.new_id-coalescing.result.0 ≡ id + 3 = omega arith in
    let fifth : c.new_id-coalescing.new.self.next ≡ id + 4 = omega arith in
    let last : c.new_object_member.new.ast.next ≡ id + 7 = omega (arith, c.in_ok-member.ensures.counted) in
    IfOk-weaker c.close-3.result _ _
    (λ node made. made ∙ rw (c.in_ok-close-2.ensures, c.in_ok-close.ensures, c.in_ok-target.ensures.made, c.in_ok-name.ensures.ok, c.in_ok-member.ensures.made, c.in_ok-default.ensures.made, c.new_id-id.ensures.id, second, third, fourth, fifth, last) refl)
    c.close-3.ensures
