use Rattle.std.proofs.Common.{arith, refl}
use Rattle.es_tree.specs.Fresh.{node_base}
use Rattle.lower_temporaries.proofs.Takings.{takes-reads}
use Rattle.lower_temporaries.specs.SeenTrees.{no_bindings}
use Rattle.lower_temporaries.proofs.Later.{there-moved}
use Rattle.lower_chains.proofs.Held.{own-made, own-moved}
use Rattle.es_resolution.specs.Seen.{seen}
use Rattle.lower_chains.specs.Ways.{held}
use Rattle.lower_chains.proofs.Receiving.{receiver-few, receiver-ids, written-first, written-last}
use Rattle.lower_chains.proofs.calls.write_callee.Goals as goal

pub returns-in_ok-written-clause-written : goal.returns-in_ok-written-clause-written
returns-in_ok-written-clause-written c = λ names.
    let made = c.in_ok-written in
    written-first names c.args.ctx.now (held c.args.holder.now) c.args.callee c.first_child.result.now c.in_ok-temporary.temporary c.in_ok-receiver.receiver c.first_child.ensures c.in_ok-receiver.ensures.meant (seen names made.written) (seen names made.read) (made.ensures.written names) c.new_temporary.new.ctx c.choose_receiver.new.ctx c.write_member.new.ctx c.args.callee_first c.if-callee_first.true c.in_ok-temporary.ensures.taken (c.in_ok-receiver.ensures.chosen names) made.ensures.reads

pub returns-in_ok-temporary-2-clause-written : goal.returns-in_ok-temporary-2-clause-written
returns-in_ok-temporary-2-clause-written c = λ names.
    let made = c.in_ok-written-2 in
    written-last names c.args.ctx.now (held c.args.holder.now) c.args.callee c.first_child-else-callee_first.result.now c.in_ok-temporary-2.temporary c.in_ok-receiver-2.receiver c.first_child-else-callee_first.ensures c.in_ok-receiver-2.ensures.meant (seen names made.written) (seen names made.read) (made.ensures.written names) c.choose_receiver-else-callee_first.new.ctx c.write_member-else-callee_first.new.ctx c.new_temporary-else-callee_first.new.ctx
    c.args.callee_first made.written c.if-callee_first.false refl (c.in_ok-receiver-2.ensures.chosen names) made.ensures.reads c.in_ok-temporary-2.ensures.taken

pub write_member-requires-clause-room : goal.write_member-requires-clause-room
write_member-requires-clause-room c =
    let made = c.in_ok-temporary.ensures.taken in
    let chosen = c.in_ok-receiver.ensures.chosen no_bindings in
    let few = receiver-ids c.in_ok-receiver.receiver in
    omega (arith, few, chosen.takes.next_is, made.takes.next_is, c.requires.room)

pub write_member-requires-else-callee_first-clause-room :
    goal.write_member-requires-else-callee_first-clause-room
write_member-requires-else-callee_first-clause-room c =
    let chosen = c.in_ok-receiver-2.ensures.chosen no_bindings in
    let few = receiver-ids c.in_ok-receiver-2.receiver in
    omega (arith, few, chosen.takes.next_is, c.requires.room)

pub new_temporary-requires-else-callee_first-clause-there :
    goal.new_temporary-requires-else-callee_first-clause-there
new_temporary-requires-else-callee_first-clause-there c =
    let chosen = c.in_ok-receiver-2.ensures.chosen no_bindings in
    there-moved c.args.ctx.now c.write_member-else-callee_first.new.ctx (takes-reads c.choose_receiver-else-callee_first.new.ctx c.write_member-else-callee_first.new.ctx chosen.takes c.in_ok-written-2.ensures.reads) c.requires.there

pub new_temporary-requires-else-callee_first-clause-room :
    goal.new_temporary-requires-else-callee_first-clause-room
new_temporary-requires-else-callee_first-clause-room c =
    let chosen = c.in_ok-receiver-2.ensures.chosen no_bindings in
    let taken = takes-reads c.choose_receiver-else-callee_first.new.ctx c.write_member-else-callee_first.new.ctx chosen.takes c.in_ok-written-2.ensures.reads in
    let few = receiver-few c.in_ok-receiver-2.receiver in
    omega (arith, few, taken.next_is, c.requires.room)

pub returns-in_ok-written-clause-own : goal.returns-in_ok-written-clause-own
returns-in_ok-written-clause-own c =
    let chosen = c.in_ok-receiver.ensures.chosen no_bindings in
    let own = own-made (node_base c.args.callee) c.args.ctx.now c.new_temporary.new.ctx c.in_ok-temporary.temporary c.in_ok-temporary.ensures.taken in
    own-moved c.new_temporary.new.ctx c.write_member.new.ctx c.in_ok-temporary.temporary (takes-reads c.choose_receiver.new.ctx c.write_member.new.ctx chosen.takes c.in_ok-written.ensures.reads) own
