use Rattle.std.proofs.Common.{arith, rules, tests}
use Rattle.lower_pattern_moves.proofs.MovedParameters.{function-moved}
use Rattle.lower_pattern_moves.proofs.Shapes.{function-length, three-fields}
use Rattle.lower_pattern_moves.proofs.parameters.move_out_of_function.Goals as goal

pub exactly-requires : goal.exactly-requires
exactly-requires c = (omega arith, function-length c.args.fields.items c.requires)

pub returns : goal.returns
returns c = function-moved (three-fields c.exactly.ensures (function-length c.args.fields.items c.requires) (search (rules, tests)) (search (rules, tests)) (search (rules, tests))) c.into_nodes.ensures c.into_node.ensures c.in_ok-moved.ensures.items c.in_ok-named.ensures
