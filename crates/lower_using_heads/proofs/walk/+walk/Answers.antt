use Rattle.std.proofs.Common.{◌≡◌, ◌∙◌, ◌<◌, ap, arith, get_or, length, subst, sym}
use Rattle.std.proofs.lemmas.List.{length-set}
use Rattle.std.proofs.lemmas.Result.{on_ok_weaker}
use Rattle.es_tree.proofs.Sizes.{fields_size-within, trees_size-within}
use Rattle.es_tree.specs.Heads.{head_of, label}
use Rattle.es_tree.specs.Tree.{many, one, statements, tree_size, trees}
use Rattle.es_tree.specs.Views.{plain_field, plain_fields}
use Rattle.es_using_heads.specs.Heads.{headed, headed_by}
use Rattle.lower_using_heads.specs.FreshHeads.{Fresh, FreshBy}
use Rattle.lower_fresh_names.proofs.Along.{so-far-all, so-far-next, so-far-none}
use Rattle.lower_using_heads.specs.Parts.{HeadsAs}
use Rattle.lower_using_heads.proofs.HeadWalks.{fields, fields-along, lists, lists-along, many-walks, missing-walks, one-walks, statements-walk, whole}
use Rattle.lower_using_heads.proofs.walk.+walk.Goals as goal

-- LISTS

pub walk_list-loop-index-init : goal.walk_list-loop-index-init
walk_list-loop-index-init t c = so-far-none lists lists-along _ _

pub walk_list-walk_node-requires : goal.walk_list-walk_node-requires
walk_list-walk_node-requires t c =
    let i = c.loop-index.index in
    let first = c.args.nodes.now.items in
    let items = c.loop-index.nodes.items in
    let x = c.index_mut.result.now in
    let l : i < length items = omega (arith, c.loop-index.invariant.count) in
    let was : x ≡ get_or first i x = c.index_mut.ensures.value ∙ c.loop-index.invariant.untouched i x (omega arith) in
    let small = trees_size-within first i x (omega (arith, l, c.loop-index.invariant.count)) was in
    grind (arith, small)

pub walk_list-loop-index-preserved : goal.walk_list-loop-index-preserved
walk_list-loop-index-preserved t c =
    let i = c.loop-index.index in
    let items = c.loop-index.nodes.items in
    let l : i < length items = omega (arith, c.loop-index.invariant.count) in
    so-far-next lists lists-along _ _ _ c.args.nodes.now.items items i c.index_mut.result.now c.walk_node.new.node (omega (arith, l, c.loop-index.invariant.count)) c.index_mut.ensures.value (length-set items i c.walk_node.new.node) c.in_ok-walk_node.ensures c.loop-index.invariant

pub walk_list-returns : goal.walk_list-returns
walk_list-returns t c = so-far-all lists lists-along _ _ c.args.nodes.now.items c.loop-index.nodes.items c.loop-index.index (omega (arith, c.loop-index.invariant.count)) c.loop-index.invariant

-- FIELDS

pub walk_fields-loop-index-init : goal.walk_fields-loop-index-init
walk_fields-loop-index-init t c = so-far-none fields fields-along _ _

pub walk_fields-walk_field-requires : goal.walk_fields-walk_field-requires
walk_fields-walk_field-requires t c =
    let i = c.loop-index.index in
    let first = c.args.fields.now.items in
    let items = c.loop-index.fields.items in
    let x = c.index_mut.result.now in
    let l : i < length items = omega (arith, c.loop-index.invariant.count) in
    let was : x ≡ get_or first i x = c.index_mut.ensures.value ∙ c.loop-index.invariant.untouched i x (omega arith) in
    let small = fields_size-within first i x (omega (arith, l, c.loop-index.invariant.count)) was in
    grind (arith, small)

pub walk_fields-loop-index-preserved : goal.walk_fields-loop-index-preserved
walk_fields-loop-index-preserved t c =
    let i = c.loop-index.index in
    let items = c.loop-index.fields.items in
    let l : i < length items = omega (arith, c.loop-index.invariant.count) in
    so-far-next fields fields-along _ _ _ c.args.fields.now.items items i c.index_mut.result.now c.walk_field.new.field (omega (arith, l, c.loop-index.invariant.count)) c.index_mut.ensures.value (length-set items i c.walk_field.new.field) c.in_ok-walk_field.ensures c.loop-index.invariant

pub walk_fields-returns : goal.walk_fields-returns
walk_fields-returns t c = so-far-all fields fields-along _ _ c.args.fields.now.items c.loop-index.fields.items c.loop-index.index (omega (arith, c.loop-index.invariant.count)) c.loop-index.invariant

-- ONE FIELD

pub walk_field-returns-in-Missing : goal.walk_field-returns-in-Missing
walk_field-returns-in-Missing t c = subst (λ f. HeadsAs headed_by FreshBy c.args.uids.now c.args.uids.now (plain_field f) (plain_field f)) (sym c.in-Missing.is) (missing-walks _)

pub walk_field-returns-in_ok-walk_node-in-One : goal.walk_field-returns-in_ok-walk_node-in-One
walk_field-returns-in_ok-walk_node-in-One t c =
    subst (λ f. HeadsAs headed_by FreshBy c.args.uids.now c.walk_node.new.uids (plain_field f) (one c.walk_node.new.node)) (sym c.in-One.is) (one-walks _ _ _ _ c.in_ok-walk_node-in-One.ensures)

pub walk_field-returns-in_ok-walk_list-in-Many : goal.walk_field-returns-in_ok-walk_list-in-Many
walk_field-returns-in_ok-walk_list-in-Many t c =
    subst (λ f. HeadsAs headed_by FreshBy c.args.uids.now c.walk_list.new.uids (plain_field f) (many (trees c.walk_list.new.nodes.items))) (sym c.in-Many.is) (many-walks _ _ _ _ c.in_ok-walk_list-in-Many.ensures)

pub walk_field-returns-in_ok-walk_list-in-Statements : goal.walk_field-returns-in_ok-walk_list-in-Statements
walk_field-returns-in_ok-walk_list-in-Statements t c =
    subst (λ f. HeadsAs headed_by FreshBy c.args.uids.now c.walk_list-in-Statements.new.uids (plain_field f) (statements (trees c.walk_list-in-Statements.new.nodes.items))) (sym c.in-Statements.is) (statements-walk _ _ _ _ c.in_ok-walk_list-in-Statements.ensures)

-- A NODE

pub walk_node-walk_fields-requires : goal.walk_node-walk_fields-requires
walk_node-walk_fields-requires t c = let size = ap tree_size c.node.view_is in grind (arith, size)

pub walk_node-returns : goal.walk_node-returns
walk_node-returns t c =
    let a = c.node.inside in
    let fs = plain_fields a.fields.items in
    let gs = plain_fields c.walk_fields.new.fields.items in
    on_ok_weaker c.move_out.result
    (λ h. subst (λ v. HeadsAs headed Fresh c.args.uids.now c.move_out.new.uids v c.move_out.new.node) c.node.view_is
    (whole c.args.uids.now c.walk_fields.new.uids c.move_out.new.uids (head_of a.kind).kind (label a.id a.span (head_of a.kind)) fs gs c.move_out.new.node c.in_ok-walk_fields.ensures h))
    c.move_out.ensures
