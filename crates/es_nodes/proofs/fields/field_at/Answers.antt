use Rattle.es_nodes.proofs.FieldsAt.{field_at-item}
use Rattle.es_nodes.proofs.fields.field_at.Goals as goal

pub returns : goal.returns
returns c = rw (← c.node.view_is, ← c.deref.ensures.value) (field_at-item c.deref.result.now c.args.index c.get.result c.get.ensures.lookup)
