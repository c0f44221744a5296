use Rattle.std.proofs.Common.{refl}
use Rattle.lower_temporaries.specs.Takings.{moment_of}
use Rattle.lower_arrows.proofs.This.{is-name, target-named, target-paid, target-walked}
use Rattle.lower_arrows.proofs.target.name_this.Goals as goal

pub read_in_place-requires : goal.read_in_place-requires
read_in_place-requires c =
    let b = moment_of c.make_name.new.ctx in
    is-name (moment_of c.args.ctx.now) b b c.args.target.now.name c.make_name.new.target.name c.in-Some.name c.args.node.now c.args.node.now c.requires.named c.in_ok-make_name.ensures c.in-Some.is

pub returns-in_ok-node-clause-named : goal.returns-in_ok-node-clause-named
returns-in_ok-node-clause-named c =
    let b = moment_of c.make_name.new.ctx in
    target-named (moment_of c.args.ctx.now) b b c.args.target.now.name c.make_name.new.target.name c.in-Some.name c.args.node.now c.args.node.now c.requires.named c.in_ok-make_name.ensures c.in-Some.is

pub returns-in_ok-node-clause-paid : goal.returns-in_ok-node-clause-paid
returns-in_ok-node-clause-paid c =
    target-paid (moment_of c.args.ctx.now) (moment_of c.make_name.new.ctx) (moment_of c.make_name.new.ctx) c.args.target.now.name c.make_name.new.target.name c.in-Some.name c.args.node.now c.in_ok-node.field-0 c.requires.named c.in_ok-make_name.ensures c.in-Some.is
    c.requires.this refl c.in_ok-node.ensures

pub returns-in_ok-node-clause-walked : goal.returns-in_ok-node-clause-walked
returns-in_ok-node-clause-walked c =
    target-walked (moment_of c.args.ctx.now) (moment_of c.make_name.new.ctx) (moment_of c.make_name.new.ctx) c.args.target.now.name c.make_name.new.target.name c.in-Some.name c.args.node.now c.in_ok-node.field-0 c.requires.named c.in_ok-make_name.ensures c.in-Some.is
    c.requires.this refl c.in_ok-node.ensures
