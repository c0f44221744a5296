use Rattle.std.proofs.Common.{arith}
use Rattle.es_tree.specs.ArityFacts.{parts_length}
use Rattle.es_statements.proofs.program.Program.open.Goals as goal

pub exactly-requires : goal.exactly-requires
exactly-requires c = (omega arith, parts_length c.into_parts-kind.result c.into_parts-kind.ensures c.requires)
