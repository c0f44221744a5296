use Rattle.std.proofs.Common.{◌≡◌, ◌∙◌, ap, sym}
use Rattle.std.proofs.lemmas.List.{take_all}
use Rattle.es_tree.specs.Tree.{fields_of}
use Rattle.es_tree.specs.Views.{plain_fields}
use Rattle.es_helper_calls.specs.HelperCalls.{helpers_in_fields, noted}
use Rattle.lower_helper_imports.proofs.Noting.{among-more, fields-more, noted-node}
use Rattle.lower_helper_imports.proofs.calls.+note.Goals as goal

pub note_in-loop-field-preserved : goal.note_in-loop-field-preserved
note_in-loop-field-preserved t c =
    fields-more c.args.known.now.items c.loop-field.known.items c.note_in_field.new.known.items c.deref-field-items.result.now c.loop-field.field-index c.field-item.result c.loop-field-test.true c.field-item.is c.loop-field.invariant c.in_ok-note_in_field.ensures

pub note_in-returns-in_ok-note : goal.note_in-returns-in_ok-note
note_in-returns-in_ok-note t c =
    let a = c.node.inside in
    let u = c.args.node.now in
    let all : c.loop-field.known.items ≡ noted c.args.known.now.items (helpers_in_fields (fields_of u)) =
    c.loop-field.invariant ∙ ap (λ fs. noted c.args.known.now.items (helpers_in_fields (plain_fields fs))) (take_all c.loop-field.field-index c.deref-field-items.result.now c.loop-field-test.false ∙ c.deref-field-items.ensures.value) ∙ ap (λ v. noted c.args.known.now.items (helpers_in_fields (fields_of v))) c.node.view_is in
    noted-node c.args.known.now.items c.loop-field.known.items c.note.new.known.items c.in-Some.helper u all (sym c.in-Some.ensures) c.in_ok-note.ensures

pub note_in_field-loop-node-preserved : goal.note_in_field-loop-node-preserved
note_in_field-loop-node-preserved t c =
    among-more c.args.known.now.items c.loop-node.known.items c.note_in-in-loop-node.new.known.items c.deref-node-items.result.now c.loop-node.node-index c.node-item.result c.loop-node-test.true c.node-item.is c.loop-node.invariant c.in_ok-note_in-in-Many.ensures
