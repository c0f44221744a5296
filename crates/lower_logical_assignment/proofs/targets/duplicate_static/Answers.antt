use Rattle.std.proofs.Common.{◌≡◌, ◌+◌, ◌∙◌, refl, ap, arith}
use Rattle.std.specs.Prelude.{false}
use Rattle.es_resolution.specs.Seen.{seen}
use Rattle.es_runs.specs.Rules.{member_node}
use Rattle.lower_temporaries.specs.SeenTrees.{no_bindings}
use Rattle.lower_temporaries.proofs.Takings.{reads-ids}
use Rattle.lower_logical_assignment.proofs.Duplicated.{duplicated-static, name-size}
use Rattle.lower_logical_assignment.proofs.targets.duplicate_static.Goals as goal

pub copy_key-requires : goal.copy_key-requires
copy_key-requires c =
    let d = c.in_ok-first.ensures no_bindings in
    let size = name-size c.args.key c.requires.name in
    omega (arith, d.takes.next_is, d.few, size, c.requires.room)

pub new_member_expression-requires : goal.new_member_expression-requires
new_member_expression-requires c =
    let d = c.in_ok-first.ensures no_bindings in
    let size = name-size c.args.key c.requires.name in
    omega (arith, d.takes.next_is, d.few, size, c.in_ok-copy.ensures.counted, c.requires.room)

pub new_member_expression-requires-2 : goal.new_member_expression-requires-2
new_member_expression-requires-2 c =
    let d = c.in_ok-first.ensures no_bindings in
    let size = name-size c.args.key c.requires.name in
    omega (arith, d.takes.next_is, d.few, size, c.in_ok-copy.ensures.counted, c.in_ok-read.ensures.counted, c.requires.room)

pub returns : goal.returns
returns c names =
    let mid = c.duplicate_once.new.ctx in
    let begin = seen names c.in_ok-first.first in
    let again = seen names c.in_ok-first.again in
    let size = name-size c.args.key c.requires.name in
    let more : c.new_member_expression-2.new.ast.next ≡ mid.ast.next + 3 = omega (arith, size, c.in_ok-copy.ensures.counted, c.in_ok-read.ensures.counted, c.in_ok-written.ensures.counted) in
    duplicated-static c.args.ctx.now mid _ names (seen names c.args.object) begin again c.args.key _ _ (c.in_ok-first.ensures names) c.requires.name
    (reads-ids 3 mid _ more refl (record { used = λ x. refl; made_is = refl }) (record { state = refl; options = refl; around = refl; scopes = refl; place = refl }))
    (ap (λ t. seen names t) c.in_ok-read.ensures.made ∙ ap (λ k. member_node false begin k) (c.in_ok-copy.ensures.copy names)) (ap (λ t. seen names t) c.in_ok-written.ensures.made)
