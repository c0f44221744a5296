use Rattle.es_tree.specs.Views.{plain_fields}
use Rattle.lower_arrows.proofs.This.{name-read}
use Rattle.lower_arrows.proofs.target.read_in_place.Goals as goal

pub returns : goal.returns
returns c =
    let name = c.name.inside in
    let node = c.node.inside in
    name-read name.id node.id name.span node.span name.kind node.kind c.in_ok-kind.kind (plain_fields name.fields.items) (plain_fields node.fields.items) c.new.result.items c.args.name.now c.args.node.now c.name.view_is c.node.view_is c.requires c.in_ok-kind.ensures c.new.ensures.items
