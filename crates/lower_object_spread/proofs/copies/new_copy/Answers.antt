use Rattle.std.proofs.Common.{◌+◌, ◌≡◌, ◌∙◌, ap, arith, refl}
use Rattle.es_resolution.specs.Seen.{seen}
use Rattle.es_steps.specs.Nodes.{word}
use Rattle.lower_temporaries.proofs.Takings.{reads-ids, reads-then}
use Rattle.lower_object_spread.proofs.Copying.{call-made}
use Rattle.lower_object_spread.proofs.copies.new_copy.Goals as goal

pub returns-clause-made : goal.returns-clause-made
returns-clause-made c names =
    call-made names c.in_ok-node.node c.in_ok-callee.callee c.in_ok-object.object c.in_ok-property.property c.args.arguments.items (ap (seen names) c.in_ok-node.ensures.made) (ap (seen names) c.in_ok-callee.ensures.made) (c.in_ok-object.ensures.made names)
    (ap (seen names) c.in_ok-property.ensures.made ∙ ap word c.in_ok-name.ensures.ok)

pub returns-clause-reads : goal.returns-clause-reads
returns-clause-reads c =
    let mid = c.read_name.new.ctx in
    let counted : c.new_call_expression.new.ast.next ≡ mid.ast.next + 3 = omega (arith, c.new_identifier.ensures.counted, c.new_member_expression.ensures.counted, c.new_call_expression.ensures.counted) in
    reads-then {m = 1} {n = 3} c.in_ok-object.ensures.reads (reads-ids 3 mid _ counted refl (record { used = λ x. refl; made_is = refl }) (record { state = refl; options = refl; around = refl; scopes = refl; place = refl }))
