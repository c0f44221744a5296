use Rattle.std.proofs.Common.{List, ap, arith, refl, ◌+◌, ◌++◌, ◌∙◌, ◌∷◌, ◌≡◌, []}
use Rattle.es_tree.specs.Tree.{Tree}
use Rattle.es_changes.specs.Moments.{Moment}
use Rattle.es_resolution.specs.Seen.{seen}
use Rattle.lower_temporaries.proofs.Takings.{reads-ids}
use Rattle.lower_temporaries.proofs.HelperCalls.{few-mapped}
use Rattle.lower_object_rest.proofs.Taken.{beside-made}
use Rattle.lower_object_rest.proofs.rests.take_rest.Goals as goal

pub new_value-requires-clause-room : goal.new_value-requires-clause-room
new_value-requires-clause-room c = omega (arith, c.in_ok-declarators.ensures.gives.next_is, c.requires.room)

pub new_variable_declarator-requires : goal.new_variable_declarator-requires
new_variable_declarator-requires c =
    let next = ap (λ (a : Moment). a.next) c.in_ok-value.ensures.reads.moment_is in
    omega (arith, next, few-mapped c.in_ok-declarators.field-0.is_read, c.in_ok-declarators.ensures.gives.next_is, c.requires.room)

pub new_variable_declarator-requires-2 : goal.new_variable_declarator-requires-2
new_variable_declarator-requires-2 c =
    let next = ap (λ (a : Moment). a.next) c.in_ok-value.ensures.reads.moment_is in
    omega (arith, next, few-mapped c.in_ok-declarators.field-0.is_read, c.in_ok-declarators.ensures.gives.next_is, c.new_variable_declarator.ensures.counted, c.requires.room)

pub returns : goal.returns
returns c =
    let valued = c.new_value.new.ctx in
    let declared : c.new_variable_declarator-2.new.ast.next ≡ valued.ast.next + 2 = omega (arith, c.new_variable_declarator.ensures.counted, c.new_variable_declarator-2.ensures.counted) in
    beside-made c.args.ctx.now c.split_groups.new.ctx valued _ c.args.pattern c.args.source c.in_ok-declarators.field-0 c.in_ok-pattern.pattern c.in_ok-value.value c.in_ok-last.last c.in_ok-rest.rest _ c.in_ok-declarators.ensures c.in_ok-pattern.ensures c.in_ok-value.ensures.made (λ names. ap (seen names) c.in_ok-last.ensures.made) (λ names. ap (seen names) c.in_ok-rest.ensures.made)
    (c.in_ok-push-2.ensures.items ∙ ap (λ (ts : List Tree). ts ++ c.in_ok-rest.rest ∷ []) c.in_ok-push.ensures.items) c.in_ok-value.ensures.reads
    (reads-ids 2 valued _ declared refl (record { used = λ x. refl; made_is = refl }) (record { state = refl; options = refl; around = refl; scopes = refl; place = refl }))
