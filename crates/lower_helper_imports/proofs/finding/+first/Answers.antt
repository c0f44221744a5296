use Rattle.std.proofs.Common.{◌≡◌, ◌∙◌, Some, ap, inl, inr, refl, sym}
use Rattle.es_tree.specs.Tree.{fields_of, trees}
use Rattle.es_tree.specs.Views.{plain_field, plain_fields}
use Rattle.es_tree.specs.Walks.{first_in_field, first_in_fields, first_in_trees, first_node}
use Rattle.es_nodes.proofs.Firsts.{first_found, none_further}
use Rattle.lower_helper_imports.specs.HelperImports.{sought_test}
use Rattle.lower_helper_imports.proofs.FirstFound.{below-node}
use Rattle.lower_helper_imports.proofs.finding.+first.Goals as goal

pub first_node-returns-in-Some : goal.first_node-returns-in-Some
first_node-returns-in-Some t c =
    let test = sought_test c.args.sought in
    let items = c.deref-field-items.result.now in
    let found : Some c.in-Some.found.0 ≡ first_in_fields test (plain_fields items) =
    sym (first_found (λ fs. first_in_fields test (plain_fields fs)) (λ f. first_in_field test (plain_field f)) refl (λ f fs. refl) items c.loop-field.field-index c.field-item.result c.in-Some.found.0 c.loop-field-test.true c.field-item.is c.loop-field.invariant (sym c.in-Some.ensures)) in
    found ∙ ap (λ fs. first_in_fields test (plain_fields fs)) c.deref-field-items.ensures.value ∙ ap (λ u. first_in_fields test (fields_of u)) c.node.view_is ∙ sym (below-node test c.args.node.now (sym c.if-is_sought.ensures))

pub first_node-loop-field-preserved : goal.first_node-loop-field-preserved
first_node-loop-field-preserved t c =
    let test = sought_test c.args.sought in
    none_further (λ fs. first_in_fields test (plain_fields fs)) (λ f. first_in_field test (plain_field f)) refl (λ f fs. refl)
    c.deref-field-items.result.now c.loop-field.field-index c.field-item.result c.loop-field-test.true c.field-item.is c.loop-field.invariant (sym c.in_default.ensures)

pub first_in_field-returns-in-Some : goal.first_in_field-returns-in-Some
first_in_field-returns-in-Some t c =
    let test = sought_test c.args.sought in
    let items = c.deref-node-items.result.now in
    let found : Some c.in-Some.found.0 ≡ first_in_trees test (trees items) =
    sym (first_found (λ ts. first_in_trees test (trees ts)) (first_node test) refl (λ u us. refl) items c.loop-node.node-index c.node-item.result c.in-Some.found.0 c.loop-node-test.true c.node-item.is c.loop-node.invariant (sym c.in-Some.ensures)) in
    let found_in_list : Some c.in-Some.found.0 ≡ first_in_trees test (trees c.in-Many.nodes.items) = found ∙ ap (λ ts. first_in_trees test (trees ts)) c.deref-node-items.ensures.value in
    elim c.in-Many.is [
      | inl e ↦ rw e found_in_list
      | inr e ↦ rw e found_in_list
    ]

pub first_in_field-loop-node-preserved : goal.first_in_field-loop-node-preserved
first_in_field-loop-node-preserved t c =
    let test = sought_test c.args.sought in
    none_further (λ ts. first_in_trees test (trees ts)) (first_node test) refl (λ u us. refl)
    c.deref-node-items.result.now c.loop-node.node-index c.node-item.result c.loop-node-test.true c.node-item.is c.loop-node.invariant (sym c.in_default.ensures)
