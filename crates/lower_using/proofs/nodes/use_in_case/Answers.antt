use Rattle.std.proofs.Common.{ap, arith, rules, tests}
use Rattle.es_tree.specs.Views.{plain_fields}
use Rattle.lower_using.proofs.Made.{case-length, constants-made, two-fields}
use Rattle.lower_using.proofs.nodes.use_in_case.Goals as goal

pub exactly-requires : goal.exactly-requires
exactly-requires c = (omega arith, case-length c.args.fields.items c.requires)

pub returns : goal.returns
returns c =
    constants-made c.in_ok-used.used.items (two-fields c.exactly.ensures (case-length c.args.fields.items c.requires) (search (rules, tests)) (search (rules, tests))) c.into_statements.ensures (ap plain_fields c.in_ok-used.ensures.items) c.in_ok-constants.ensures
