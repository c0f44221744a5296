use Rattle.std.proofs.Common.{map, ap, ◌∙◌}
use Rattle.serde_json.specs.Data.{object}
use Rattle.serde_json.proofs.Views.{view-Array, view-Object}
use Rattle.es_json.specs.Canonical.{canonical, field_value}
use Rattle.es_tree.specs.Views.{plain_field}
use Rattle.es_json.proofs.WrittenChildren.{canonical_node, canonical_list, map-take_all}
use Rattle.es_json.proofs.writer.+write.Goals as goal

pub write_field-returns-after-loop-node : goal.write_field-returns-after-loop-node
write_field-returns-after-loop-node t c =
    let items = c.deref-node-items.result.now in
    let all = c.loop-node.invariant ∙ map-take_all canonical items c.loop-node.node-index c.loop-node-test.false ∙ ap (map canonical) c.deref-node-items.ensures.value in
    view-Array c.loop-node.values ∙ canonical_list c.in-Many.nodes c.args.field.now c.loop-node.values.items c.in-Many.is all

pub write_node-returns : goal.write_node-returns
write_node-returns t c =
    let items = c.deref-field-items.result.now in
    let all = c.loop-field.invariant ∙ map-take_all (λ f. field_value (plain_field f)) items c.loop-field.field-index c.loop-field-test.false
    ∙ ap (map (λ f. field_value (plain_field f))) c.deref-field-items.ensures.value in
    view-Object c.in_ok-members.members ∙ ap object c.in_ok-members.ensures ∙ canonical_node c.node.inside c.args.node.now _ c.node.view_is all
