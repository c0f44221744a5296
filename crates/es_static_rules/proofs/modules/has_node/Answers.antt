use Rattle.std.proofs.Common.{arith}
use Rattle.es_static_rules.proofs.Accessors.{no_node}
use Rattle.es_static_rules.proofs.modules.has_node.Goals as goal

pub returns-in-Many : goal.returns-in-Many
returns-in-Many c =
    let nodes = c.in-Many.nodes in
    rw (c.in-Many.is, c.is_empty.ensures) (no_node nodes.len nodes.items (omega (arith, nodes.ok.0)))
