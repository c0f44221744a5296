use Rattle.std.proofs.Common.{refl}
use Rattle.lower_temporaries.proofs.Takings.{reads-ids, reads-then}
use Rattle.lower_object_spread.specs.Copying.{literals_before}
use Rattle.lower_object_spread.proofs.Copying.{copy-made}
use Rattle.lower_object_spread.proofs.copies.copy_spread.Goals as goal

pub returns-clause-made : goal.returns-clause-made
returns-clause-made c names = copy-made names c.args.copy c.args.pending.items c.in_ok-arguments.arguments.items c.push.new.self.items c.args.argument c.in_ok-node.node (c.in_ok-arguments.ensures.made names) c.in_ok-push.ensures.items (c.in_ok-node.ensures.made names)

pub returns-clause-reads : goal.returns-clause-reads
returns-clause-reads c =
    let old = c.args.ctx.now in
    reads-then {m = literals_before c.args.copy c.args.pending.items} {n = 4} (reads-ids _ old _ c.in_ok-arguments.ensures.counted refl (record { used = λ x. refl; made_is = refl }) (record { state = refl; options = refl; around = refl; scopes = refl; place = refl })) c.in_ok-node.ensures.reads
