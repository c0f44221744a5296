use Rattle.std.proofs.Common.{arith, rules, tests}
use Rattle.lower_using.proofs.Made.{four-fields, head-length, head-made, head-used}
use Rattle.lower_using.proofs.nodes.use_in_head.Goals as goal

pub exactly-requires : goal.exactly-requires
exactly-requires c = (omega arith, head-length c.args.fields.items c.requires)

pub make_declaration-requires : goal.make_declaration-requires
make_declaration-requires c =
    head-used c.exactly.ensures c.requires c.into_node.ensures (search (rules, tests))

pub returns : goal.returns
returns c =
    head-made (four-fields c.exactly.ensures (head-length c.args.fields.items c.requires) (search (rules, tests)) (search (rules, tests)) (search (rules, tests)) (search (rules, tests))) c.into_node.ensures c.in_ok-used.ensures.items c.in_ok-constants.ensures
