use Rattle.std.proofs.Common.{◌≡◌, ◌∙◌, ◌<◌, Bool, ap, arith, get_or, length, subst, sym}
use Rattle.std.specs.Prelude.{◌&&◌, false}
use Rattle.std.proofs.lemmas.Result.{on_ok_weaker}
use Rattle.es_tree.proofs.Sizes.{fields_size-within, trees_size-within}
use Rattle.es_tree.specs.Bare.{bare, bare_field, bare_fields}
use Rattle.es_tree.specs.Heads.{head_of, label}
use Rattle.es_tree.specs.Tree.{Tree, node, field_size, fields_of, kind_of, label_of, many, one, statements, tree_size, trees}
use Rattle.es_tree.specs.Views.{plain_field, plain_fields}
use Rattle.es_excluded_keys.specs.ExcludedKeys.{Shares, SharesBy, SharesIn, is_below, leaves_out}
use Rattle.lower_excluded_keys.specs.Sharing.{Becomes}
use Rattle.lower_excluded_keys.proofs.Calls.{and-false, arguments-are, arguments-shared, call-shared, key-call, keys-listed, second-is}
use Rattle.lower_excluded_keys.proofs.Lists.{fields-all, fields-next, fields-none, list-all, list-next, list-none, many-shared, node-shared, none-shared, one-shared, statements-shared}
use Rattle.lower_excluded_keys.proofs.sharing.+share.Goals as goal
use Rattle.lower_excluded_keys.proofs.sharing.+share.Goals.{share_in-else-deep-via-then-deep+else-leaves_out, share_in-else-deep-via-else-deep}

-- LISTS

pub share_in_list-loop-index-init : goal.share_in_list-loop-index-init
share_in_list-loop-index-init t c = list-none _ _ _

pub share_in_list-share_in-requires : goal.share_in_list-share_in-requires
share_in_list-share_in-requires t c =
    let i = c.loop-index.index in
    let first = c.args.nodes.now.items in
    let items = c.loop-index.nodes.items in
    let x = c.index_mut.result.now in
    let l : i < length items = omega (arith, c.loop-index.invariant.count) in
    let was : x ≡ get_or first i x = c.index_mut.ensures.value ∙ c.loop-index.invariant.untouched i x (omega arith) in
    let small = trees_size-within first i x (omega (arith, l, c.loop-index.invariant.count)) was in
    grind (arith, small)

pub share_in_list-loop-index-preserved : goal.share_in_list-loop-index-preserved
share_in_list-loop-index-preserved t c =
    list-next c.args.deep _ _ _ c.args.nodes.now.items c.loop-index.nodes.items c.loop-index.index c.index_mut.result.now c.share_in.new.node (omega (arith, c.loop-index.invariant.count)) c.index_mut.ensures.value c.in_ok-share_in.ensures c.loop-index.invariant

pub share_in_list-returns : goal.share_in_list-returns
share_in_list-returns t c = list-all c.args.deep _ _ c.args.nodes.now.items c.loop-index.nodes.items c.loop-index.index (omega (arith, c.loop-index.invariant.count)) c.loop-index.invariant

-- FIELDS

pub share_in_fields-loop-index-init : goal.share_in_fields-loop-index-init
share_in_fields-loop-index-init t c = fields-none _ _ _

pub share_in_fields-share_in_field-requires : goal.share_in_fields-share_in_field-requires
share_in_fields-share_in_field-requires t c =
    let i = c.loop-index.index in
    let first = c.args.fields.now.items in
    let items = c.loop-index.fields.items in
    let x = c.index_mut.result.now in
    let l : i < length items = omega (arith, c.loop-index.invariant.count) in
    let was : x ≡ get_or first i x = c.index_mut.ensures.value ∙ c.loop-index.invariant.untouched i x (omega arith) in
    let small = fields_size-within first i x (omega (arith, l, c.loop-index.invariant.count)) was in
    grind (arith, small)

pub share_in_fields-loop-index-preserved : goal.share_in_fields-loop-index-preserved
share_in_fields-loop-index-preserved t c =
    fields-next (is_below c.args.deep c.args.kind) c.is_below.result _ _ _ c.args.fields.now.items c.loop-index.fields.items c.loop-index.index c.index_mut.result.now c.share_in_field.new.field (omega (arith, c.loop-index.invariant.count)) c.index_mut.ensures.value c.is_below.ensures c.in_ok-share_in_field.ensures c.loop-index.invariant

pub share_in_fields-returns : goal.share_in_fields-returns
share_in_fields-returns t c = fields-all (is_below c.args.deep c.args.kind) _ _ c.args.fields.now.items c.loop-index.fields.items c.loop-index.index (omega (arith, c.loop-index.invariant.count)) c.loop-index.invariant

-- ONE FIELD

pub share_in_field-returns-in-Missing : goal.share_in_field-returns-in-Missing
share_in_field-returns-in-Missing t c = subst (λ f. Becomes (SharesBy c.args.deep (plain_field f)) bare_field c.args.constants.now c.args.constants.now (plain_field f)) (sym c.in-Missing.is) (none-shared _ _)

pub share_in_field-returns-in_ok-share_in-in-One : goal.share_in_field-returns-in_ok-share_in-in-One
share_in_field-returns-in_ok-share_in-in-One t c =
    subst (λ f. Becomes (SharesBy c.args.deep (plain_field f)) bare_field c.args.constants.now c.share_in.new.constants (one c.share_in.new.node)) (sym c.in-One.is) (one-shared _ _ _ _ _ c.in_ok-share_in-in-One.ensures)

pub share_in_field-returns-in_ok-share_in_list-in-Many : goal.share_in_field-returns-in_ok-share_in_list-in-Many
share_in_field-returns-in_ok-share_in_list-in-Many t c =
    subst (λ f. Becomes (SharesBy c.args.deep (plain_field f)) bare_field c.args.constants.now c.share_in_list.new.constants (many (trees c.share_in_list.new.nodes.items))) (sym c.in-Many.is) (many-shared _ _ _ _ _ c.in_ok-share_in_list-in-Many.ensures)

pub share_in_field-returns-in_ok-share_in_list-in-Statements : goal.share_in_field-returns-in_ok-share_in_list-in-Statements
share_in_field-returns-in_ok-share_in_list-in-Statements t c =
    subst (λ f. Becomes (SharesBy c.args.deep (plain_field f)) bare_field c.args.constants.now c.share_in_list-in-Statements.new.constants (statements (trees c.share_in_list-in-Statements.new.nodes.items))) (sym c.in-Statements.is) (statements-shared _ _ _ _ _ c.in_ok-share_in_list-in-Statements.ensures)

-- A CALL

pub share_in_arguments-returns : goal.share_in_arguments-returns
share_in_arguments-returns t c =
    on_ok_weaker c.share.result
    (λ h. arguments-shared c.args.arguments.now.items c.index_mut.result.now c.index_mut-2.result.now c.share_in.new.node c.share.new.list c.args.constants.now c.share_in.new.constants c.share.new.self c.requires c.index_mut.ensures.value c.index_mut-2.ensures.value c.in_ok-share_in.ensures h)
    c.share.ensures

pub share_in_call-index_mut-requires : goal.share_in_call-index_mut-requires
share_in_call-index_mut-requires t c =
    let fields = c.args.fields.now in
    omega (arith, ap length (key-call fields.items c.requires).fields_are, fields.ok.0)

pub share_in_call-share_in_arguments-requires : goal.share_in_call-share_in_arguments-requires
share_in_call-share_in_arguments-requires t c =
    let fs = c.args.fields.now.items in
    let f = c.index_mut.result.now in
    let call = key-call fs c.requires in
    let small = fields_size-within fs 1 f (omega (arith, ap length call.fields_are)) c.index_mut.ensures.value in
    let held = ap (λ g. field_size (plain_field g)) c.in-Many.is in
    (grind (arith, small, held), ap length (arguments-are fs f c.in-Many.arguments call c.index_mut.ensures.value c.in-Many.is))

pub share_in_call-returns-in-Many : goal.share_in_call-returns-in-Many
share_in_call-returns-in-Many t c =
    let fs = c.args.fields.now.items in
    on_ok_weaker c.share_in_arguments.result
    (λ h. call-shared fs c.index_mut.result.now c.in-Many.arguments c.share_in_arguments.new.arguments c.args.constants.now c.share_in_arguments.new.constants (key-call fs c.requires) c.index_mut.ensures.value c.in-Many.is h)
    c.share_in_arguments.ensures

pub share_in_call-returns-in_default : goal.share_in_call-returns-in_default
share_in_call-returns-in_default t c =
    let call = key-call c.args.fields.now.items c.requires in
    absurd (c.in_default.not-Many call.arguments (second-is c.args.fields.now.items c.index_mut.result.now call c.index_mut.ensures.value))

-- A NODE

abbrev leaves : Tree → Bool
leaves u = leaves_out (kind_of u) (label_of u) (fields_of u)

pub share_in-share_in_call-requires : goal.share_in-share_in_call-requires
share_in-share_in_call-requires t c =
    let a = c.node.inside in
    let size = ap tree_size c.node.view_is in
    (grind (arith, size), keys-listed (head_of a.kind).kind (label a.id a.span (head_of a.kind)) (plain_fields a.fields.items) (ap leaves c.node.view_is ∙ sym c.leaves_out.ensures ∙ c.if-leaves_out.true))

pub share_in-returns : goal.share_in-returns
share_in-returns t c =
    let a = c.node.inside in
    let deep = c.args.deep in
    let fs = plain_fields a.fields.items in
    let gs = plain_fields c.share_in_fields.new.fields.items in
    let old = c.args.constants.now in
    let new = c.share_in_fields.new.constants in
    let k = (head_of a.kind).kind in
    let l = label a.id a.span (head_of a.kind) in
    let stays : (deep && leaves_out k l fs) ≡ false = elim c.else-deep.branch [
      | share_in-else-deep-via-then-deep+else-leaves_out w ↦ ap (λ b. deep && b) (ap leaves c.node.view_is ∙ sym w.leaves_out.ensures ∙ w.if-leaves_out.false) ∙ and-false deep
      | share_in-else-deep-via-else-deep w ↦ ap (λ d. d && leaves_out k l fs) w.if-deep.false
    ] in
    on_ok_weaker c.share_in_fields.result
    (λ h. subst (λ v. Becomes (Shares deep v) bare old new (node k l gs)) c.node.view_is (node-shared deep k l fs gs old new stays (subst (λ j. Becomes (SharesIn (is_below deep j) fs) bare_fields old new gs) c.ast_type-kind.ensures h)))
    c.share_in_fields.ensures
