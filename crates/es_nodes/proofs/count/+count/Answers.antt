use Rattle.std.proofs.Common.{arith}
use Rattle.es_nodes.proofs.Sums.{one_more_field, one_more_tree}
use Rattle.es_nodes.proofs.count.+count.Goals as goal

pub count_field-loop-node-preserved : goal.count_field-loop-node-preserved
count_field-loop-node-preserved t c =
    omega (
      arith,
      c.loop-node.invariant,
      c.saturating_add-count.ensures,
      c.count_nodes-in-loop-node.ensures,
      one_more_tree c.deref-node-items.result.now c.loop-node.node-index c.node-item.result c.loop-node-test.true c.node-item.is,
    )

pub count_nodes-loop-field-preserved : goal.count_nodes-loop-field-preserved
count_nodes-loop-field-preserved t c =
    omega (
      arith,
      c.loop-field.invariant,
      c.saturating_add-count.ensures,
      c.count_field.ensures,
      one_more_field c.deref-field-items.result.now c.loop-field.field-index c.field-item.result c.loop-field-test.true c.field-item.is,
    )
