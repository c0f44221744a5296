use Rattle.std.proofs.Common.{arith, refl}
use Rattle.es_resolution.specs.Seen.{seen}
use Rattle.lower_temporaries.specs.SeenTrees.{no_bindings}
use Rattle.lower_temporaries.proofs.Later.{reads-made}
use Rattle.lower_temporaries.proofs.Takings.{reads-none, takes-reads}
use Rattle.lower_chains.specs.Ways.{held}
use Rattle.lower_chains.proofs.Receiving.{bound-member, receiver-few, receiver-ids}
use Rattle.lower_chains.proofs.receivers.bind_member.Goals as goal

pub write_member-requires-clause-room : goal.write_member-requires-clause-room
write_member-requires-clause-room c =
    let chosen = c.in_ok-receiver.ensures.chosen no_bindings in
    let few = receiver-ids c.in_ok-receiver.receiver in
    omega (arith, few, chosen.takes.next_is, c.requires.room)

pub new_bind-requires : goal.new_bind-requires
new_bind-requires c =
    let chosen = c.in_ok-receiver.ensures.chosen no_bindings in
    let taken = takes-reads c.choose_receiver.new.ctx c.write_member.new.ctx chosen.takes c.in_ok-written.ensures.reads in
    let few = receiver-few c.in_ok-receiver.receiver in
    record { room = omega (arith, few, taken.next_is, c.requires.room) }

pub returns : goal.returns
returns c = λ names.
    let made = c.in_ok-written in
    bound-member names c.args.ctx.now c.choose_receiver.new.ctx c.write_member.new.ctx _ (held c.args.holder.now) c.args.member c.first_child.result.now c.in_ok-receiver.receiver c.first_child.ensures c.in_ok-receiver.ensures.meant (seen names made.written) (seen names made.read) (seen names c.in_ok-node.node)
    (made.ensures.written names) (c.in_ok-receiver.ensures.chosen names) made.ensures.reads (c.in_ok-node.ensures.made names)
    (reads-made 3 3 c.write_member.new.ctx c.write_member.new.ctx _ (reads-none c.write_member.new.ctx) c.in_ok-node.ensures.counted refl (record { used = λ x. refl; made_is = refl }) (record { state = refl; options = refl; around = refl; scopes = refl; place = refl }) refl)
