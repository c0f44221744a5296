use Rattle.std.proofs.Common.{◌≡◌, map, take}
use Rattle.es_tree.specs.Views.{plain_field}
use Rattle.es_json.specs.Canonical.{canonical, field_value}
use Rattle.serde_json.specs.View.{view}
use Rattle.es_json.proofs.writer.+write.Given as goal

abbrev pub invariant-write_node-loop-field : goal.invariant-write_node-loop-field
invariant-write_node-loop-field l = map view l.values.items ≡ map (λ f. field_value (plain_field f)) (take l.field-index l.field-items)

abbrev pub invariant-write_field-loop-node : goal.invariant-write_field-loop-node
invariant-write_field-loop-node l = map view l.values.items ≡ map canonical (take l.node-index l.node-items)
