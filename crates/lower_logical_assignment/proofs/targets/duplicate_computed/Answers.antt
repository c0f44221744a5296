use Rattle.std.proofs.Common.{◌≡◌, ◌+◌, refl, ap, arith}
use Rattle.es_resolution.specs.Seen.{seen}
use Rattle.es_steps.specs.Open.{with_vars}
use Rattle.lower_temporaries.specs.SeenTrees.{no_bindings}
use Rattle.lower_temporaries.proofs.Pairs.{with_top-there}
use Rattle.lower_temporaries.proofs.Takings.{reads-ids}
use Rattle.lower_logical_assignment.proofs.Duplicated.{duplicated-computed}
use Rattle.lower_logical_assignment.proofs.targets.duplicate_computed.Goals as goal

pub duplicate_once-requires-2-clause-there : goal.duplicate_once-requires-2-clause-there
duplicate_once-requires-2-clause-there c =
    let d = c.in_ok-object.ensures no_bindings in
    with_top-there (with_vars d.made) c.args.ctx.now.state.var_declarations c.duplicate_once.new.ctx.state.var_declarations d.takes.lists_are c.requires.there

pub duplicate_once-requires-2-clause-room : goal.duplicate_once-requires-2-clause-room
duplicate_once-requires-2-clause-room c = let d = c.in_ok-object.ensures no_bindings in omega (arith, d.takes.next_is, d.few, c.requires.room)

pub new_member_expression-requires : goal.new_member_expression-requires
new_member_expression-requires c =
    let d = c.in_ok-object.ensures no_bindings in
    let k = c.in_ok-key.ensures no_bindings in
    omega (arith, d.takes.next_is, d.few, k.takes.next_is, k.few, c.requires.room)

pub new_member_expression-requires-2 : goal.new_member_expression-requires-2
new_member_expression-requires-2 c =
    let d = c.in_ok-object.ensures no_bindings in
    let k = c.in_ok-key.ensures no_bindings in
    omega (arith, d.takes.next_is, d.few, k.takes.next_is, k.few, c.in_ok-read.ensures.counted, c.requires.room)

pub returns : goal.returns
returns c names =
    let mid = c.duplicate_once-2.new.ctx in
    let more : c.new_member_expression-2.new.ast.next ≡ mid.ast.next + 2 = omega (arith, c.in_ok-read.ensures.counted, c.in_ok-written.ensures.counted) in
    duplicated-computed c.args.ctx.now c.duplicate_once.new.ctx mid _ (seen names c.args.object) (seen names c.in_ok-object.object) (seen names c.in_ok-object.object_again) (seen names c.args.key) (seen names c.in_ok-key.key) (seen names c.in_ok-key.key_again) _ _
    (c.in_ok-object.ensures names) (c.in_ok-key.ensures names) (reads-ids 2 mid _ more refl (record { used = λ x. refl; made_is = refl }) (record { state = refl; options = refl; around = refl; scopes = refl; place = refl }))
    (ap (λ t. seen names t) c.in_ok-read.ensures.made) (ap (λ t. seen names t) c.in_ok-written.ensures.made)
