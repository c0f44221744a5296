use Rattle.std.proofs.Common.{◌≡◌, ◌∙◌, ◌<◌, ap, arith, get_or, length}
use Rattle.std.proofs.lemmas.Result.{on_ok_weaker}
use Rattle.es_tree.proofs.Sizes.{fields_size-within, trees_size-within}
use Rattle.es_tree.specs.Fresh.{is_among}
use Rattle.es_tree.specs.Heads.{head_of, label}
use Rattle.es_tree.specs.Tree.{tree_size}
use Rattle.es_tree.specs.Views.{plain_fields}
use Rattle.es_scope.specs.Contexts.{made_of}
use Rattle.lower_constructor_this.proofs.Walked.{fields-all, fields-next, fields-none, list-all, list-next, list-none, whole}
use Rattle.lower_constructor_this.proofs.walk.+walk.Goals as goal

-- LISTS

pub walk_list-loop-index-init : goal.walk_list-loop-index-init
walk_list-loop-index-init g t c = list-none _ _ _

pub walk_list-walk_node-requires : goal.walk_list-walk_node-requires
walk_list-walk_node-requires g t c =
    let i = c.loop-index.index in
    let first = c.args.nodes.now.items in
    let items = c.loop-index.nodes.items in
    let x = c.index_mut.result.now in
    let l : i < length items = omega (arith, c.loop-index.invariant.count) in
    let was : x ≡ get_or first i x = c.index_mut.ensures.value ∙ c.loop-index.invariant.untouched i x (omega arith) in
    let small = trees_size-within first i x (omega (arith, l, c.loop-index.invariant.count)) was in
    grind (arith, small)

pub walk_list-loop-index-preserved : goal.walk_list-loop-index-preserved
walk_list-loop-index-preserved g t c =
    list-next _ _ c.args.nodes.now.items c.loop-index.nodes.items c.loop-index.index c.index_mut.result.now c.walk_node.new.node (omega (arith, c.loop-index.invariant.count)) c.index_mut.ensures.value c.in_ok-walk_node.ensures c.loop-index.invariant

pub walk_list-returns : goal.walk_list-returns
walk_list-returns g t c = list-all _ _ c.args.nodes.now.items c.loop-index.nodes.items c.loop-index.index (omega (arith, c.loop-index.invariant.count)) c.loop-index.invariant

-- FIELDS

pub walk_fields-loop-index-init : goal.walk_fields-loop-index-init
walk_fields-loop-index-init g t c = fields-none _ _ _

pub walk_fields-walk_field-requires : goal.walk_fields-walk_field-requires
walk_fields-walk_field-requires g t c =
    let i = c.loop-index.index in
    let first = c.args.fields.now.items in
    let items = c.loop-index.fields.items in
    let x = c.index_mut.result.now in
    let l : i < length items = omega (arith, c.loop-index.invariant.count) in
    let was : x ≡ get_or first i x = c.index_mut.ensures.value ∙ c.loop-index.invariant.untouched i x (omega arith) in
    let small = fields_size-within first i x (omega (arith, l, c.loop-index.invariant.count)) was in
    grind (arith, small)

pub walk_fields-loop-index-preserved : goal.walk_fields-loop-index-preserved
walk_fields-loop-index-preserved g t c =
    fields-next _ _ c.at.result c.args.fields.now.items c.loop-index.fields.items c.loop-index.index c.index_mut.result.now c.walk_field.new.field (omega (arith, c.loop-index.invariant.count)) c.index_mut.ensures.value c.at.ensures c.in_ok-walk_field.ensures c.loop-index.invariant

pub walk_fields-returns : goal.walk_fields-returns
walk_fields-returns g t c = fields-all _ _ c.args.fields.now.items c.loop-index.fields.items c.loop-index.index (omega (arith, c.loop-index.invariant.count)) c.loop-index.invariant

-- A NODE

pub walk_node-walk_fields-requires : goal.walk_node-walk_fields-requires
walk_node-walk_fields-requires g t c = let size = ap tree_size c.node.view_is in grind (arith, size)

pub walk_node-returns : goal.walk_node-returns
walk_node-returns g t c =
    let a = c.node.inside in
    on_ok_weaker c.set_here.result
    (λ h. whole (is_among (made_of c.args.ctx.now)) c.args.standing (head_of a.kind).kind (label a.id a.span (head_of a.kind)) (plain_fields a.fields.items) (plain_fields c.walk_fields.new.fields.items) c.inside-standings.result c.args.node.now c.set_here.new.node c.node.view_is c.in_ok-walk_fields.ensures c.inside-standings.ensures h)
    c.set_here.ensures
