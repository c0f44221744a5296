use Rattle.std.proofs.Common.{◌+◌, ◌∙◌, ◌≡◌, ap, arith, refl, sym}
use Rattle.std.specs.Prelude.{Bool}
use Rattle.es_tree.specs.Views.{plain_fields}
use Rattle.es_resolution.specs.Seen.{seen, seen_in}
use Rattle.es_steps.specs.Nodes.{word}
use Rattle.lower_temporaries.specs.Helpers.{keys_value, mapped_ids}
use Rattle.lower_temporaries.proofs.HelperCalls.{keys-mapped}
use Rattle.lower_temporaries.proofs.Takings.{reads-as, reads-ids, reads-then}
use Rattle.lower_temporaries.proofs.helpers.new_keys.Goals as goal

pub returns-then-not-is_read-clause-made : goal.returns-then-not-is_read-clause-made
returns-then-not-is_read-clause-made c names = ap (seen names) c.in_ok-array.ensures.made ∙ ap (λ (b : Bool). keys_value b (seen_in names (plain_fields c.args.keys.items))) (sym c.if-not-is_read.true)

pub returns-then-not-is_read-clause-reads : goal.returns-then-not-is_read-clause-reads
returns-then-not-is_read-clause-reads c = reads-as 1 (1 + mapped_ids c.args.is_read) (ap (λ (b : Bool). 1 + mapped_ids b) (sym c.if-not-is_read.true)) (reads-ids 1 c.args.ctx.now _ c.new_array_expression.ensures.counted refl (record { used = λ x. refl; made_is = refl }) (record { state = refl; options = refl; around = refl; scopes = refl; place = refl }))

pub returns-clause-made : goal.returns-clause-made
returns-clause-made c names =
    let fs = seen_in names (plain_fields c.args.keys.items) in
    keys-mapped names c.in_ok-mapped.mapped c.in_ok-callee.callee c.in_ok-array.array c.in_ok-property.property c.in_ok-convert.convert c.in_ok-arguments.arguments.items fs (ap (seen names) c.in_ok-mapped.ensures.made) c.in_ok-arguments.ensures.items (ap (seen names) c.in_ok-callee.ensures.made) (ap (seen names) c.in_ok-array.ensures.made)
    (ap (seen names) c.in_ok-property.ensures.made ∙ ap word c.in_ok-map.ensures.ok) (c.in_ok-convert.ensures.made names)
    ∙ ap (λ (b : Bool). keys_value b fs) (sym c.if-not-is_read.false)

pub returns-clause-reads : goal.returns-clause-reads
returns-clause-reads c =
    let old = c.args.ctx.now in
    let helped = c.new_helper.new.ctx in
    let counted : c.new_member_expression.new.ast.next ≡ old.ast.next + 3 = omega (arith, c.new_array_expression.ensures.counted, c.new_identifier.ensures.counted, c.new_member_expression.ensures.counted) in
    reads-as 7 (1 + mapped_ids c.args.is_read) (ap (λ (b : Bool). 1 + mapped_ids b) (sym c.if-not-is_read.false))
    (reads-then {m = 3} {n = 4} (reads-ids 3 old _ counted refl (record { used = λ x. refl; made_is = refl }) (record { state = refl; options = refl; around = refl; scopes = refl; place = refl })) (reads-then {m = 3} {n = 1} c.in_ok-convert.ensures.reads (reads-ids 1 helped _ c.new_call_expression.ensures.counted refl (record { used = λ x. refl; made_is = refl }) (record { state = refl; options = refl; around = refl; scopes = refl; place = refl }))))
