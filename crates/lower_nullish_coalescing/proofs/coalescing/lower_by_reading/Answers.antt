use Rattle.std.proofs.Common.{◌≡◌, ◌+◌, ap, arith, refl, subst}
use Rattle.es_tree.specs.Tree.{tree_size}
use Rattle.es_changes.specs.Moments.{Moment}
use Rattle.lower_temporaries.specs.Takings.{ReadsMore}
use Rattle.lower_temporaries.proofs.Takings.{reads-ids, reads-then}
use Rattle.lower_nullish_coalescing.proofs.Coalescings.{alone-size}
use Rattle.lower_nullish_coalescing.proofs.coalescing.lower_by_reading.Goals as goal

pub read_once_more-requires-2 : goal.read_once_more-requires-2
read_once_more-requires-2 c =
    let one_node = alone-size c.args.left c.requires.alone in
    let first : c.read_once_more.new.ctx.ast.next ≡ c.args.ctx.now.ast.next + tree_size c.args.left = ap (λ (m : Moment). m.next) c.in_ok-again.ensures.reads.moment_is in
    record { room = omega (arith, one_node, first) }

pub new_tested-requires-clause-room : goal.new_tested-requires-clause-room
new_tested-requires-clause-room c =
    let one_node = alone-size c.args.left c.requires.alone in
    let first : c.read_once_more.new.ctx.ast.next ≡ c.args.ctx.now.ast.next + tree_size c.args.left = ap (λ (m : Moment). m.next) c.in_ok-again.ensures.reads.moment_is in
    let second : c.read_once_more-2.new.ctx.ast.next ≡ c.read_once_more.new.ctx.ast.next + tree_size c.args.left = ap (λ (m : Moment). m.next) c.in_ok-value.ensures.reads.moment_is in
    omega (arith, one_node, first, second)

pub returns-clause-reads : goal.returns-clause-reads
returns-clause-reads c =
    let one_node = alone-size c.args.left c.requires.alone in
    let first = subst (λ n. ReadsMore n c.args.ctx.now c.read_once_more.new.ctx) one_node c.in_ok-again.ensures.reads in
    let second = subst (λ n. ReadsMore n c.read_once_more.new.ctx c.read_once_more-2.new.ctx) one_node c.in_ok-value.ensures.reads in
    reads-then {m = 2} {n = 7} (reads-then {m = 1} {n = 1} first second)
    (reads-ids 7 c.read_once_more-2.new.ctx _ c.in_ok-node.ensures.counted refl (record { used = λ x. refl; made_is = refl }) (record { state = refl; options = refl; around = refl; scopes = refl; place = refl }))
