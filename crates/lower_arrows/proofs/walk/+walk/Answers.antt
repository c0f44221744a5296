use Rattle.std.proofs.Common.{◌≡◌, ◌∙◌, ◌+◌, ◌-◌, ◌<◌, ◌^◌, refl, sym, ap, subst, arith, length, get_or, true, false, true≢false}
use Rattle.std.proofs.lemmas.List.{length-set}
use Rattle.es_tree.specs.HasForm.{same_type}
use Rattle.es_tree.specs.declared.ast_type.AstType.TheVariants.{ThisExpression}
use Rattle.es_tree.specs.Heads.{head_of, label}
use Rattle.es_tree.specs.Tree.{kind_of, many, one, statements, tree_size, trees}
use Rattle.es_tree.specs.Views.{plain_field, plain_fields}
use Rattle.es_tree.proofs.Sizes.{fields_size-within, trees_size-within}
use Rattle.es_resolution.specs.Seen.{seen, seen_among, seen_by}
use Rattle.es_runs.specs.Weights.{fields_weight, weight}
use Rattle.es_traverse.proofs.KeptParts.{untouched-more, untouched-none}
use Rattle.lower_temporaries.specs.SeenTrees.{no_bindings}
use Rattle.lower_temporaries.specs.Takings.{moment_of}
use Rattle.lower_arrows.specs.Names.{due, name_in}
use Rattle.lower_arrows.specs.Walks.{Paid, Walked, WalkedField, WalkedTrees, belongs_at, may_belong}
use Rattle.lower_arrows.proofs.Fields.{apart-walked, list-walked, many-walked, missing-walked, one-walked}
use Rattle.lower_arrows.proofs.Lists.{list-left, list-paid}
use Rattle.lower_arrows.proofs.MadeFunctions.{node-room}
use Rattle.lower_arrows.proofs.Costs.{field-room, paid-fields-more, paid-none, paid-trees-more, paid-wider, plain_size, plain_weight, tree-room}
use Rattle.lower_arrows.proofs.Seen.{fields-seen-all, fields-seen-more, fields-seen-none, trees-seen-all, trees-seen-more, trees-seen-none}
use Rattle.lower_arrows.proofs.Visits.{arrow-node-paid, arrow-node-walked, belongs-may, plain-node-walked}
use Rattle.lower_arrows.proofs.walk.+walk.Goals as goal
use Rattle.lower_arrows.proofs.walk.+walk.Goals.{walk_node-else-belongs-via-then-belongs+else-is_this, walk_node-else-belongs-via-else-belongs}

-- LISTS

pub walk_nodes-loop-index-init : goal.walk_nodes-loop-index-init
walk_nodes-loop-index-init t c = record {
  named = c.requires.named;
  count = refl;
  untouched = untouched-none _;
  paid = paid-none _ _ _ _ _;
  seen = trees-seen-none _ _ _ _;
}

pub walk_nodes-walk_node-requires : goal.walk_nodes-walk_node-requires
walk_nodes-walk_node-requires t c =
    let i = c.loop-index.index in
    let first = c.args.nodes.now.items in
    let items = c.loop-index.nodes.items in
    let x = c.index_mut.result.now in
    let l : i < length items = omega (arith, c.loop-index.invariant.count) in
    let here : get_or items i x ≡ x = sym c.index_mut.ensures.value in
    let was : x ≡ get_or first i x = sym here ∙ c.loop-index.invariant.untouched i x (omega arith) in
    let small = trees_size-within first i x (omega (arith, l, c.loop-index.invariant.count)) was in
    let room : c.loop-index.ctx.ast.next + due c.args.belongs c.loop-index.target.name + weight x < 2 ^ 32 - 1 =
    subst (λ z. c.loop-index.ctx.ast.next + due c.args.belongs c.loop-index.target.name + weight z < 2 ^ 32 - 1) here (tree-room c.args.belongs first items i x l c.requires.room c.loop-index.invariant.paid) in
    (omega (arith, small), (c.loop-index.invariant.named, room))

pub walk_nodes-loop-index-preserved : goal.walk_nodes-loop-index-preserved
walk_nodes-loop-index-preserved t c =
    let i = c.loop-index.index in
    let first = c.args.nodes.now.items in
    let items = c.loop-index.nodes.items in
    let x = c.index_mut.result.now in
    let u = c.walk_node.new.node in
    let o = c.args.belongs in
    let l : i < length items = omega (arith, c.loop-index.invariant.count) in
    let here : get_or items i x ≡ x = sym c.index_mut.ensures.value in
    let m = moment_of c.loop-index.ctx in
    let e = moment_of c.walk_node.new.ctx in
    record {
      named = c.in_ok-walk_node.ensures.named;
      count = length-set items i u ∙ c.loop-index.invariant.count;
      untouched = untouched-more first items i u c.loop-index.invariant.untouched;
      paid = paid-trees-more o first items i x u l (subst (λ z. Paid o m c.loop-index.target.name (weight z) (tree_size z) e c.walk_node.new.target.name (weight u) (tree_size u)) (sym here) c.in_ok-walk_node.ensures.paid) c.loop-index.invariant.paid;
      seen = trees-seen-more o first items i x u l (c.loop-index.invariant.untouched i x (omega arith)) (λ names. subst (λ z. Walked o m (name_in c.loop-index.target.name) (seen names z) e (name_in c.walk_node.new.target.name) (seen names u)) (sym here) (c.in_ok-walk_node.ensures.walked names)) c.loop-index.invariant.seen;
    }

pub walk_nodes-returns-clause-walked : goal.walk_nodes-returns-clause-walked
walk_nodes-returns-clause-walked t c =
    trees-seen-all c.args.belongs _ _ _ _ c.args.nodes.now.items c.loop-index.nodes.items c.loop-index.index (omega (arith, c.loop-index.invariant.count)) c.loop-index.invariant.seen

-- FIELDS

pub walk_fields-loop-index-init : goal.walk_fields-loop-index-init
walk_fields-loop-index-init t c = record {
  named = c.requires.named;
  count = refl;
  untouched = untouched-none _;
  paid = paid-none _ _ _ _ _;
  seen = fields-seen-none _ _ _ _ _;
}

pub walk_fields-walk_field-requires : goal.walk_fields-walk_field-requires
walk_fields-walk_field-requires t c =
    let i = c.loop-index.index in
    let first = c.args.fields.now.items in
    let items = c.loop-index.fields.items in
    let x = c.index_mut.result.now in
    let o = c.args.parent.belongs in
    let k = c.args.parent.kind in
    let l : i < length items = omega (arith, c.loop-index.invariant.count) in
    let here : get_or items i x ≡ x = sym c.index_mut.ensures.value in
    let was : x ≡ get_or first i x = sym here ∙ c.loop-index.invariant.untouched i x (omega arith) in
    let small = fields_size-within first i x (omega (arith, l, c.loop-index.invariant.count)) was in
    let room : c.loop-index.ctx.ast.next + due (belongs_at o k i) c.loop-index.target.name + plain_weight x < 2 ^ 32 - 1 =
    subst (λ z. c.loop-index.ctx.ast.next + due (belongs_at o k i) c.loop-index.target.name + plain_weight z < 2 ^ 32 - 1) here
    (field-room (may_belong o k) (belongs_at o k i) first items i x (belongs-may o k i) l c.requires.room c.loop-index.invariant.paid) in
    (omega (arith, small), (c.loop-index.invariant.named, room))

pub walk_fields-loop-index-preserved : goal.walk_fields-loop-index-preserved
walk_fields-loop-index-preserved t c =
    let i = c.loop-index.index in
    let first = c.args.fields.now.items in
    let items = c.loop-index.fields.items in
    let x = c.index_mut.result.now in
    let g = c.walk_field.new.field in
    let o = c.args.parent.belongs in
    let k = c.args.parent.kind in
    let l : i < length items = omega (arith, c.loop-index.invariant.count) in
    let here : get_or items i x ≡ x = sym c.index_mut.ensures.value in
    let m = moment_of c.loop-index.ctx in
    let e = moment_of c.walk_field.new.ctx in
    let y = c.loop-index.target.name in
    let z = c.walk_field.new.target.name in
    record {
      named = c.in_ok-walk_field.ensures.named;
      count = length-set items i g ∙ c.loop-index.invariant.count;
      untouched = untouched-more first items i g c.loop-index.invariant.untouched;
      paid = paid-fields-more (may_belong o k) first items i x g l (subst (λ f. Paid (may_belong o k) m y (plain_weight f) (plain_size f) e z (plain_weight g) (plain_size g)) (sym here) (paid-wider (belongs_at o k i) (may_belong o k) y z (belongs-may o k i) c.in_ok-walk_field.ensures.paid)) c.loop-index.invariant.paid;
      seen = fields-seen-more o k first items i x g l (c.loop-index.invariant.untouched i x (omega arith)) (λ names. subst (λ f. WalkedField o k i m (name_in y) (seen_by names (plain_field f)) e (name_in z) (seen_by names (plain_field g))) (sym here) (c.in_ok-walk_field.ensures.walked names)) c.loop-index.invariant.seen;
    }

pub walk_fields-returns-clause-walked : goal.walk_fields-returns-clause-walked
walk_fields-returns-clause-walked t c =
    fields-seen-all c.args.parent.belongs c.args.parent.kind _ _ _ _ c.args.fields.now.items c.loop-index.fields.items c.loop-index.index (omega (arith, c.loop-index.invariant.count)) c.loop-index.invariant.seen

-- THE LIST OF A TARGET

pub lower_list-returns-clause-paid : goal.lower_list-returns-clause-paid
lower_list-returns-clause-paid t c =
    list-paid (moment_of c.args.ctx.now) (moment_of c.walk_nodes.new.ctx) (moment_of c.declare.new.ctx) c.walk_nodes.new.target.name _ _ (trees c.walk_nodes.new.nodes.items) (trees c.declare.new.statements.items) c.in_ok-walk_nodes.ensures.paid c.in_ok-declare.ensures.declared c.in_ok-declare.ensures.moment

pub lower_list-returns-clause-walked : goal.lower_list-returns-clause-walked
lower_list-returns-clause-walked t c =
    list-left (moment_of c.args.ctx.now) (moment_of c.walk_nodes.new.ctx) (moment_of c.declare.new.ctx) c.walk_nodes.new.target.name (trees c.args.statements.now.items) (trees c.walk_nodes.new.nodes.items) (trees c.declare.new.statements.items) c.in_ok-walk_nodes.ensures.walked c.in_ok-declare.ensures.declared c.in_ok-declare.ensures.moment

-- ONE FIELD

pub walk_field-returns-in-Missing-clause-walked : goal.walk_field-returns-in-Missing-clause-walked
walk_field-returns-in-Missing-clause-walked t c names =
    let m = moment_of c.args.ctx.now in
    let x = name_in c.args.target.now.name in
    subst (λ f. WalkedField c.args.parent.belongs c.args.parent.kind c.args.index m x (seen_by names (plain_field f)) m x (seen_by names (plain_field f))) (sym c.in-Missing.is) (missing-walked c.args.parent.belongs c.args.parent.kind c.args.index m x)

pub walk_field-returns-in_ok-walk_node-in-One-clause-walked :
    goal.walk_field-returns-in_ok-walk_node-in-One-clause-walked
walk_field-returns-in_ok-walk_node-in-One-clause-walked t c names =
    let m = moment_of c.args.ctx.now in
    let x = name_in c.args.target.now.name in
    let e = moment_of c.walk_node.new.ctx in
    let y = name_in c.walk_node.new.target.name in
    let o = c.args.parent.belongs in
    let k = c.args.parent.kind in
    let v = seen names c.in-One.node in
    let u = seen names c.walk_node.new.node in
    subst (λ f. WalkedField o k c.args.index m x (seen_by names (plain_field f)) e y (one u)) (sym c.in-One.is)
    (one-walked o k c.args.index m x v e y u (subst (λ b. Walked b m x v e y u) c.belongs_at-belongs.ensures (c.in_ok-walk_node-in-One.ensures.walked names)))

pub walk_field-returns-in_ok-walk_nodes-in-Many-clause-walked :
    goal.walk_field-returns-in_ok-walk_nodes-in-Many-clause-walked
walk_field-returns-in_ok-walk_nodes-in-Many-clause-walked t c names =
    let m = moment_of c.args.ctx.now in
    let x = name_in c.args.target.now.name in
    let e = moment_of c.walk_nodes.new.ctx in
    let y = name_in c.walk_nodes.new.target.name in
    let o = c.args.parent.belongs in
    let k = c.args.parent.kind in
    let v = seen_among names (trees c.in-Many.nodes.items) in
    let u = seen_among names (trees c.walk_nodes.new.nodes.items) in
    subst (λ f. WalkedField o k c.args.index m x (seen_by names (plain_field f)) e y (many u)) (sym c.in-Many.is)
    (many-walked o k c.args.index m x v e y u (subst (λ b. WalkedTrees b m x v e y u) c.belongs_at-belongs.ensures (c.in_ok-walk_nodes-in-Many.ensures.walked names)))

pub walk_field-returns-in_ok-walk_nodes-in-Statements-clause-walked :
    goal.walk_field-returns-in_ok-walk_nodes-in-Statements-clause-walked
walk_field-returns-in_ok-walk_nodes-in-Statements-clause-walked t c names =
    let m = moment_of c.args.ctx.now in
    let x = name_in c.args.target.now.name in
    let e = moment_of c.walk_nodes-else-is_target.new.ctx in
    let y = name_in c.walk_nodes-else-is_target.new.target.name in
    let o = c.args.parent.belongs in
    let k = c.args.parent.kind in
    let v = seen_among names (trees c.in-Statements.statements.items) in
    let u = seen_among names (trees c.walk_nodes-else-is_target.new.nodes.items) in
    subst (λ f. WalkedField o k c.args.index m x (seen_by names (plain_field f)) e y (statements u)) (sym c.in-Statements.is)
    (list-walked o k c.args.index m x v e y u (sym c.is_target.ensures ∙ c.if-is_target.false) (subst (λ b. WalkedTrees b m x v e y u) c.belongs_at-belongs.ensures (c.in_ok-walk_nodes-in-Statements.ensures.walked names)))

-- NODES

pub walk_node-walk_fields-requires : goal.walk_node-walk_fields-requires
walk_node-walk_fields-requires t c =
    let a = c.node-2.inside in
    let k = (head_of a.kind).kind in
    let l = label a.id a.span (head_of a.kind) in
    let fs = plain_fields a.fields.items in
    let x = c.args.target.now.name in
    let size = ap tree_size c.node-2.view_is in
    let heavy = ap weight c.node-2.view_is in
    let room = node-room c.args.belongs k l fs x c.args.ctx.now.ast.next (2 ^ 32 - 1) (omega (arith, c.requires.room, heavy)) in
    (omega (arith, size), (c.requires.named, subst (λ j. c.args.ctx.now.ast.next + due (may_belong c.args.belongs j) x + fields_weight fs < 2 ^ 32 - 1) (sym c.ast_type-kind.ensures) room))

pub walk_node-returns-in_ok-become_function-clause-paid :
    goal.walk_node-returns-in_ok-become_function-clause-paid
walk_node-returns-in_ok-become_function-clause-paid t c =
    let a = c.node-2.inside in
    arrow-node-paid c.args.belongs (moment_of c.args.ctx.now) (moment_of c.walk_fields.new.ctx) _ c.args.target.now.name c.walk_fields.new.target.name c.ast_type-kind.result (head_of a.kind).kind (label a.id a.span (head_of a.kind)) (plain_fields a.fields.items) (plain_fields c.walk_fields.new.fields.items) c.args.node.now c.become_function.new.arrow
    c.ast_type-kind.ensures (sym c.is_arrow.ensures ∙ c.if-is_arrow.true) c.node-2.view_is (c.in_ok-become_function.ensures.made no_bindings) c.in_ok-become_function.ensures.counted refl refl refl c.in_ok-walk_fields.ensures.paid

pub walk_node-returns-in_ok-become_function-clause-walked :
    goal.walk_node-returns-in_ok-become_function-clause-walked
walk_node-returns-in_ok-become_function-clause-walked t c names =
    let a = c.node-2.inside in
    arrow-node-walked c.args.belongs (moment_of c.args.ctx.now) (moment_of c.walk_fields.new.ctx) _ (name_in c.args.target.now.name) (name_in c.walk_fields.new.target.name) c.ast_type-kind.result (head_of a.kind).kind (label a.id a.span (head_of a.kind)) (plain_fields a.fields.items) (plain_fields c.walk_fields.new.fields.items) c.args.node.now c.become_function.new.arrow names
    c.ast_type-kind.ensures (sym c.is_arrow.ensures ∙ c.if-is_arrow.true) c.node-2.view_is (c.in_ok-become_function.ensures.made names) refl (c.in_ok-walk_fields.ensures.walked names)

pub walk_node-returns-else-is_arrow-clause-walked :
    goal.walk_node-returns-else-is_arrow-clause-walked
walk_node-returns-else-is_arrow-clause-walked t c names =
    let a = c.node-2.inside in
    let k = (head_of a.kind).kind in
    let kind : kind_of c.args.node.now ≡ k = sym (ap kind_of c.node-2.view_is) in
    let this : c.args.belongs ≡ true → same_type k ThisExpression ≡ false = λ e. elim c.else-belongs.branch [
      | walk_node-else-belongs-via-then-belongs+else-is_this w ↦ subst (λ j. same_type j ThisExpression ≡ false) kind (sym w.is_this.ensures ∙ w.if-is_this.false)
      | walk_node-else-belongs-via-else-belongs w ↦ absurd (true≢false (sym e ∙ w.if-belongs.false))
    ] in
    plain-node-walked c.args.belongs (moment_of c.args.ctx.now) (moment_of c.walk_fields.new.ctx) (name_in c.args.target.now.name) (name_in c.walk_fields.new.target.name) c.ast_type-kind.result k (label a.id a.span (head_of a.kind)) (plain_fields a.fields.items) (plain_fields c.walk_fields.new.fields.items) c.args.node.now names
    c.ast_type-kind.ensures (sym c.is_arrow.ensures ∙ c.if-is_arrow.false) this c.node-2.view_is (c.in_ok-walk_fields.ensures.walked names)

-- the list of another target
pub walk_field-returns-in_ok-lower_list-in-Statements-clause-walked :
    goal.walk_field-returns-in_ok-lower_list-in-Statements-clause-walked
walk_field-returns-in_ok-lower_list-in-Statements-clause-walked t c names =
    let m = moment_of c.args.ctx.now in
    let x = name_in c.args.target.now.name in
    let e = moment_of c.lower_list.new.ctx in
    let o = c.args.parent.belongs in
    let k = c.args.parent.kind in
    let v = seen_among names (trees c.in-Statements.statements.items) in
    let u = seen_among names (trees c.lower_list.new.statements.items) in
    subst (λ f. WalkedField o k c.args.index m x (seen_by names (plain_field f)) e x (statements u)) (sym c.in-Statements.is)
    (apart-walked o k c.args.index m x v e u (sym c.is_target.ensures ∙ c.if-is_target.true) (c.in_ok-lower_list-in-Statements.ensures.walked names))
