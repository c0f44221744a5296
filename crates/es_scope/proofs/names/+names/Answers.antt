use Rattle.std.proofs.Common.{◌≡◌, ◌||◌, ◌++◌, map, take}
use Rattle.std.proofs.lemmas.List.{take_all}
use Rattle.std.specs.HashSet.{contains_text}
use Rattle.es_tree.specs.Fresh.{is_among}
use Rattle.es_tree.specs.Heads.{head_of, label}
use Rattle.es_tree.specs.Names.{is_name_place, names_if, names_in_fields, own_name}
use Rattle.es_tree.specs.Tree.{fields}
use Rattle.es_tree.specs.Views.{plain_field}
use Rattle.es_scope.proofs.Among.{among_more, or_nothing, names_in_fields-more, names_in_trees-more, names_if-kept}
use Rattle.es_scope.proofs.names.+names.Goals.{insert_node-then-counts+in_ok-insert_own_name, insert_node-else-counts}
use Rattle.es_scope.proofs.names.+names.Goals as goal

pub insert_field-loop-node-preserved : goal.insert_field-loop-node-preserved
insert_field-loop-node-preserved t c = λ x.
    among_more _ _ _ _ _ _ x (c.loop-node.invariant x) (c.in_ok-insert_node-in-Many.ensures x)
    (names_in_trees-more c.deref-node-items.result.now c.loop-node.node-index c.node-item.result c.loop-node-test.true c.node-item.is)

pub insert_node-loop-index-preserved : goal.insert_node-loop-index-preserved
insert_node-loop-index-preserved t c = λ x.
    let inside = c.node.inside in
    let counts = is_name_place (head_of inside.kind).kind (label inside.id inside.span (head_of inside.kind)) in
    among_more _ _ _ _ _ _ x (c.loop-index.invariant x) (rw (c.is_name_place.ensures inside.id inside.span) at c.in_ok-insert_field.ensures x)
    (names_in_fields-more counts c.deref-field-items.result.now c.loop-index.index c.field-item.result c.loop-index-test.true c.field-item.is)

pub insert_node-returns : goal.insert_node-returns
insert_node-returns t c = λ x.
    let inside = c.node.inside in
    let kind = (head_of inside.kind).kind in
    let said = label inside.id inside.span (head_of inside.kind) in
    let own : contains_text c.if-counts.names x ≡ (contains_text c.args.names.now x || is_among (own_name c.args.counts kind said) x) =
    elim c.if-counts.branch [
      | insert_node-then-counts+in_ok-insert_own_name w ↦ rw (w.names-is, w.if-counts.true) (w.in_ok-insert_own_name.ensures x inside.id inside.span)
      | insert_node-else-counts w ↦ rw (w.names-is, w.if-counts.false) (or_nothing _)
    ] in
    let whole : names_if c.args.counts c.args.node.now ≡ own_name c.args.counts kind said ++ names_in_fields (is_name_place kind said) (fields (map plain_field (take c.loop-index.index c.deref-field-items.result.now))) =
    rw (take_all c.loop-index.index c.deref-field-items.result.now c.loop-index-test.false, c.deref-field-items.ensures.value)
    (names_if-kept c.args.counts c.args.node.now kind said (fields (map plain_field inside.fields.items)) c.node.view_is c.if-is_reexport.ensures) in
    among_more _ _ _ _ _ _ x own (c.loop-index.invariant x) whole
