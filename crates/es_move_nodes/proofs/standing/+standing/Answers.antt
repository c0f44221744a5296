use Rattle.std.proofs.Common.{◌≡◌, ◌∙◌, ap, inl, inr, refl, sym, true}
use Rattle.es_tree.specs.Heads.{head_of, label}
use Rattle.es_tree.specs.Names.{is_name_place}
use Rattle.es_tree.specs.Tree.{trees}
use Rattle.es_nodes.proofs.Anys.{any_passes, none_more, or_true}
use Rattle.es_pattern_moves.specs.PatternMoves.{stands_among, stands_if}
use Rattle.es_move_nodes.specs.AskedNames.{is_asked}
use Rattle.es_move_nodes.proofs.StandingNames.{none-stands, one-stands, stands_at, stands_of}
use Rattle.es_move_nodes.proofs.standing.+standing.Goals as goal

pub stands_if-returns-then-stands_in_field : goal.stands_if-returns-then-stands_in_field
stands_if-returns-then-stands_in_field t c =
    let x = c.node.inside in
    let test = is_asked c.args.names.now in
    let counts = is_name_place (head_of x.kind).kind (label x.id x.span (head_of x.kind)) in
    let found : true ≡ stands_of test counts c.deref-field-items.result.now =
    sym (one-stands test counts c.deref-field-items.result.now c.loop-index.index c.field-item.result c.loop-index-test.true c.field-item.is
    (ap (λ b. stands_at test b c.field-item.result) (sym (c.is_name_place.ensures x.id x.span)) ∙ sym c.if-stands_in_field.ensures)) in
    rw (← c.node.view_is, ← c.deref-field-items.ensures.value, ← found) (sym (or_true _))

pub stands_if-loop-index-preserved : goal.stands_if-loop-index-preserved
stands_if-loop-index-preserved t c =
    let x = c.node.inside in
    let test = is_asked c.args.names.now in
    let counts = is_name_place (head_of x.kind).kind (label x.id x.span (head_of x.kind)) in
    none-stands test counts c.deref-field-items.result.now c.loop-index.index c.field-item.result c.loop-index-test.true c.field-item.is c.loop-index.invariant
    (ap (λ b. stands_at test b c.field-item.result) (sym (c.is_name_place.ensures x.id x.span)) ∙ sym c.if-stands_in_field.ensures)

pub stands_in_field-returns-then-stands_if : goal.stands_in_field-returns-then-stands_if
stands_in_field-returns-then-stands_if t c =
    let test = is_asked c.args.names.now in
    let found : true ≡ stands_among test (trees c.deref-node-items.result.now) =
    sym (any_passes (λ ts. stands_among test (trees ts)) (stands_if test true) refl (λ t ts. refl)
    c.deref-node-items.result.now c.loop-node.node-index c.node-item.result c.loop-node-test.true c.node-item.is (sym c.if-stands_if.ensures)) in
    let found_in_list : true ≡ stands_among test (trees c.in-Many.nodes.items) = rw (← c.deref-node-items.ensures.value) found in
    elim c.in-Many.is [
      | inl e ↦ rw e found_in_list
      | inr e ↦ rw e found_in_list
    ]

pub stands_in_field-loop-node-preserved : goal.stands_in_field-loop-node-preserved
stands_in_field-loop-node-preserved t c =
    let test = is_asked c.args.names.now in
    none_more (λ ts. stands_among test (trees ts)) (stands_if test true) refl (λ t ts. refl)
    c.deref-node-items.result.now c.loop-node.node-index c.node-item.result c.loop-node-test.true c.node-item.is c.loop-node.invariant (sym c.if-stands_if.ensures)
