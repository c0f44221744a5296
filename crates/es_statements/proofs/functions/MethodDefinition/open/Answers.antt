use Rattle.std.proofs.Common.{arith}
use Rattle.es_tree.specs.ArityFacts.{parts_length}
use Rattle.es_statements.proofs.functions.MethodDefinition.open.Goals as goal

pub exactly-requires : goal.exactly-requires
exactly-requires c = (omega arith, parts_length c.into_parts-node_kind.result c.into_parts-node_kind.ensures c.requires)
