use Rattle.std.proofs.Common.{◌≡◌, ◌∙◌, ◌+◌, ◌-◌, ◌<◌, ◌^◌, ℕ, refl, sym, ap, subst, arith, length, get_or}
use Rattle.std.specs.Prelude.{Option}
use Rattle.std.proofs.lemmas.List.{length-set}
use Rattle.std.proofs.lemmas.Result.{on_ok_weaker}
use Rattle.es_tree.specs.Heads.{head_of, label}
use Rattle.es_tree.specs.Tree.{many, node, one, statements, tree_size, trees}
use Rattle.es_tree.specs.Views.{plain_field, plain_fields}
use Rattle.es_tree.specs.declared.options.EnvOptions.{EnvOptions}
use Rattle.es_tree.specs.Words.{Text}
use Rattle.es_tree.proofs.Sizes.{fields_size-within, trees_size-within}
use Rattle.es_resolution.specs.Seen.{seen, seen_among, seen_by}
use Rattle.es_traverse.specs.Laws.{Seen}
use Rattle.es_traverse.proofs.KeptParts.{untouched-more, untouched-none}
use Rattle.lower_arrows.proofs.Costs.{plain_size}
use Rattle.lower_nodes.specs.Nodes.{Alike, AlikeBy, Lowered, Paid, PaidTree, owed, owed_in}
use Rattle.lower_nodes.specs.Nodes.Alike.{within}
use Rattle.lower_nodes.specs.Nodes.AlikeBy.{both_missing, many_alike, one_alike, statements_alike}
use Rattle.lower_nodes.proofs.Alike.{alike-same-among, alike-same-in, alike-seen, alike-then}
use Rattle.lower_temporaries.specs.Takings.{moment_of}
use Rattle.lower_node_walk.specs.Walks.{Walked, WalkedField}
use Rattle.lower_node_walk.proofs.Costs.{field-room, paid-fields-more, paid-node, paid-none, paid-then, paid-trees-more, plain_owed, tree-room}
use Rattle.lower_node_walk.proofs.Fields.{list-walked, many-walked, missing-walked, one-walked}
use Rattle.lower_node_walk.proofs.Loops.{alike-fields-more, alike-trees-more}
use Rattle.lower_node_walk.proofs.Nodes.{node-seen}
use Rattle.lower_node_walk.proofs.Seen.{fields-seen-all, fields-seen-more, fields-seen-none, trees-seen-all, trees-seen-more, trees-seen-none}
use Rattle.lower_node_walk.proofs.walk.+walk.Goals as goal

-- LISTS

pub walk_list-loop-index-init : goal.walk_list-loop-index-init
walk_list-loop-index-init g t c = record {
  count = refl;
  untouched = untouched-none _;
  paid = paid-none _ _ _;
  alike = alike-same-among _ _;
  seen = trees-seen-none _ _ _;
}

pub walk_list-walk_node-requires : goal.walk_list-walk_node-requires
walk_list-walk_node-requires g t c κs lives =
    let i = c.loop-index.index in
    let first = c.args.nodes.now.items in
    let items = c.loop-index.nodes.items in
    let x = c.index_mut.result.now in
    let o = c.args.ctx.now.options in
    let options = sym c.loop-index.invariant.paid.options in
    let l : i < length items = omega (arith, c.loop-index.invariant.count) in
    let here : get_or items i x ≡ x = sym c.index_mut.ensures.value in
    let was : x ≡ get_or first i x = sym here ∙ c.loop-index.invariant.untouched i x (omega arith) in
    let small = trees_size-within first i x (omega (arith, l, c.loop-index.invariant.count)) was in
    let room : c.loop-index.ctx.ast.next + owed (g.T.NodeLowering.profile o).owes x < 2 ^ 32 - 1 =
    subst (λ z. c.loop-index.ctx.ast.next + owed (g.T.NodeLowering.profile o).owes z < 2 ^ 32 - 1) here (tree-room (g.T.NodeLowering.profile o).owes first items i x l c.requires.room c.loop-index.invariant.paid) in
    let suited = subst (λ (q : EnvOptions). g.T.NodeLowering.suits c.args.lowering.now q) options c.requires.suited in
    let there = subst (λ (q : EnvOptions). c.loop-index.ctx.ast.next + owed (g.T.NodeLowering.profile q).owes x < 2 ^ 32 - 1) options room in
    grind (arith, small, suited, there)

pub walk_list-loop-index-preserved : goal.walk_list-loop-index-preserved
walk_list-loop-index-preserved g t c =
    let i = c.loop-index.index in
    let first = c.args.nodes.now.items in
    let items = c.loop-index.nodes.items in
    let x = c.index_mut.result.now in
    let u = c.walk_node.new.node in
    let p = g.T.NodeLowering.profile c.args.ctx.now.options in
    let options = c.loop-index.invariant.paid.options in
    let l : i < length items = omega (arith, c.loop-index.invariant.count) in
    let here : get_or items i x ≡ x = sym c.index_mut.ensures.value in
    let m = moment_of c.loop-index.ctx in
    let e = moment_of c.walk_node.new.ctx in
    let paid = subst (λ (q : EnvOptions). PaidTree (g.T.NodeLowering.profile q).owes m x e u) options c.in_ok-walk_node.ensures.paid in
    let alike = subst (λ (q : EnvOptions). Alike (g.T.NodeLowering.profile q).changes x u) options c.in_ok-walk_node.ensures.alike in
    let walked = subst (λ (q : EnvOptions). Seen (λ t v. Walked (g.T.NodeLowering.profile q) m t e v) x u) options c.in_ok-walk_node.ensures.walked in
    record {
      count = length-set items i u ∙ c.loop-index.invariant.count;
      untouched = untouched-more first items i u c.loop-index.invariant.untouched;
      paid = paid-trees-more p.owes first items i x u l (subst (λ z. PaidTree p.owes m z e u) (sym here) paid) c.loop-index.invariant.paid;
      alike = alike-trees-more p.changes first items i x u l (subst (λ z. Alike p.changes z u) (sym here) alike) c.loop-index.invariant.alike;
      seen = trees-seen-more p first items i x u l (c.loop-index.invariant.untouched i x (omega arith)) (subst (λ z. Seen (λ t v. Walked p m t e v) z u) (sym here) walked) c.loop-index.invariant.seen;
    }

pub walk_list-returns-clause-walked : goal.walk_list-returns-clause-walked
walk_list-returns-clause-walked g t c =
    trees-seen-all _ _ _ c.args.nodes.now.items c.loop-index.nodes.items c.loop-index.index (omega (arith, c.loop-index.invariant.count)) c.loop-index.invariant.seen

-- FIELDS

pub walk_fields-loop-index-init : goal.walk_fields-loop-index-init
walk_fields-loop-index-init g t c = record {
  count = refl;
  untouched = untouched-none _;
  paid = paid-none _ _ _;
  alike = alike-same-in _ _;
  seen = fields-seen-none _ _ _;
}

pub walk_fields-walk_field-requires : goal.walk_fields-walk_field-requires
walk_fields-walk_field-requires g t c κs lives =
    let i = c.loop-index.index in
    let first = c.args.fields.now.items in
    let items = c.loop-index.fields.items in
    let x = c.index_mut.result.now in
    let o = c.args.ctx.now.options in
    let options = sym c.loop-index.invariant.paid.options in
    let l : i < length items = omega (arith, c.loop-index.invariant.count) in
    let here : get_or items i x ≡ x = sym c.index_mut.ensures.value in
    let was : x ≡ get_or first i x = sym here ∙ c.loop-index.invariant.untouched i x (omega arith) in
    let small = fields_size-within first i x (omega (arith, l, c.loop-index.invariant.count)) was in
    let room : c.loop-index.ctx.ast.next + plain_owed (g.T.NodeLowering.profile o).owes x < 2 ^ 32 - 1 =
    subst (λ z. c.loop-index.ctx.ast.next + plain_owed (g.T.NodeLowering.profile o).owes z < 2 ^ 32 - 1) here (field-room (g.T.NodeLowering.profile o).owes first items i x l c.requires.room c.loop-index.invariant.paid) in
    let suited = subst (λ (q : EnvOptions). g.T.NodeLowering.suits c.args.lowering.now q) options c.requires.suited in
    let there = subst (λ (q : EnvOptions). c.loop-index.ctx.ast.next + plain_owed (g.T.NodeLowering.profile q).owes x < 2 ^ 32 - 1) options room in
    grind (arith, small, suited, there)

pub walk_fields-loop-index-preserved : goal.walk_fields-loop-index-preserved
walk_fields-loop-index-preserved g t c =
    let i = c.loop-index.index in
    let first = c.args.fields.now.items in
    let items = c.loop-index.fields.items in
    let x = c.index_mut.result.now in
    let d = c.walk_field.new.field in
    let p = g.T.NodeLowering.profile c.args.ctx.now.options in
    let options = c.loop-index.invariant.paid.options in
    let l : i < length items = omega (arith, c.loop-index.invariant.count) in
    let here : get_or items i x ≡ x = sym c.index_mut.ensures.value in
    let m = moment_of c.loop-index.ctx in
    let e = moment_of c.walk_field.new.ctx in
    let paid = subst (λ (q : EnvOptions). Paid m (plain_owed (g.T.NodeLowering.profile q).owes x) (plain_size x) e (plain_owed (g.T.NodeLowering.profile q).owes d) (plain_size d)) options c.in_ok-walk_field.ensures.paid in
    let alike = subst (λ (q : EnvOptions). AlikeBy (g.T.NodeLowering.profile q).changes (plain_field x) (plain_field d)) options c.in_ok-walk_field.ensures.alike in
    let walked = subst (λ (q : EnvOptions). (names : ℕ → Text → Option ℕ) → WalkedField (g.T.NodeLowering.profile q) m (seen_by names (plain_field x)) e (seen_by names (plain_field d))) options c.in_ok-walk_field.ensures.walked in
    record {
      count = length-set items i d ∙ c.loop-index.invariant.count;
      untouched = untouched-more first items i d c.loop-index.invariant.untouched;
      paid = paid-fields-more p.owes first items i x d l (subst (λ z. Paid m (plain_owed p.owes z) (plain_size z) e (plain_owed p.owes d) (plain_size d)) (sym here) paid) c.loop-index.invariant.paid;
      alike = alike-fields-more p.changes first items i x d l (subst (λ z. AlikeBy p.changes (plain_field z) (plain_field d)) (sym here) alike) c.loop-index.invariant.alike;
      seen = fields-seen-more p first items i x d l (c.loop-index.invariant.untouched i x (omega arith)) (λ names. subst (λ z. WalkedField p m (seen_by names (plain_field z)) e (seen_by names (plain_field d))) (sym here) (walked names)) c.loop-index.invariant.seen;
    }

pub walk_fields-returns-clause-walked : goal.walk_fields-returns-clause-walked
walk_fields-returns-clause-walked g t c =
    fields-seen-all _ _ _ c.args.fields.now.items c.loop-index.fields.items c.loop-index.index (omega (arith, c.loop-index.invariant.count)) c.loop-index.invariant.seen

-- ONE FIELD

pub walk_field-returns-in-Missing-clause-alike : goal.walk_field-returns-in-Missing-clause-alike
walk_field-returns-in-Missing-clause-alike g t c =
    subst (λ f. AlikeBy (g.T.NodeLowering.profile c.args.ctx.now.options).changes (plain_field f) (plain_field f)) (sym c.in-Missing.is) both_missing

pub walk_field-returns-in-Missing-clause-walked : goal.walk_field-returns-in-Missing-clause-walked
walk_field-returns-in-Missing-clause-walked g t c names =
    let m = moment_of c.args.ctx.now in
    let p = g.T.NodeLowering.profile c.args.ctx.now.options in
    subst (λ f. WalkedField p m (seen_by names (plain_field f)) m (seen_by names (plain_field f))) (sym c.in-Missing.is) (missing-walked p m)

pub walk_field-returns-in_ok-walk_node-in-One-clause-alike : goal.walk_field-returns-in_ok-walk_node-in-One-clause-alike
walk_field-returns-in_ok-walk_node-in-One-clause-alike g t c =
    subst (λ f. AlikeBy (g.T.NodeLowering.profile c.args.ctx.now.options).changes (plain_field f) (one c.walk_node.new.node)) (sym c.in-One.is) (one_alike c.in_ok-walk_node-in-One.ensures.alike)

pub walk_field-returns-in_ok-walk_node-in-One-clause-walked :
    goal.walk_field-returns-in_ok-walk_node-in-One-clause-walked
walk_field-returns-in_ok-walk_node-in-One-clause-walked g t c names =
    let m = moment_of c.args.ctx.now in
    let e = moment_of c.walk_node.new.ctx in
    let p = g.T.NodeLowering.profile c.args.ctx.now.options in
    let law = g.met.T.NodeLowering.lawful c.args.lowering.now c.args.ctx.now.options in
    let v = seen names c.in-One.node in
    let u = seen names c.walk_node.new.node in
    subst (λ f. WalkedField p m (seen_by names (plain_field f)) e (one u)) (sym c.in-One.is)
    (one-walked p law m v e u (c.in_ok-walk_node-in-One.ensures.walked names) (alike-seen p.changes names law.classes.0 law.classes.1 c.in_ok-walk_node-in-One.ensures.alike))

pub walk_field-returns-in_ok-walk_list-in-Many-clause-alike : goal.walk_field-returns-in_ok-walk_list-in-Many-clause-alike
walk_field-returns-in_ok-walk_list-in-Many-clause-alike g t c =
    subst (λ f. AlikeBy (g.T.NodeLowering.profile c.args.ctx.now.options).changes (plain_field f) (many (trees c.walk_list.new.nodes.items))) (sym c.in-Many.is) (many_alike c.in_ok-walk_list-in-Many.ensures.alike)

pub walk_field-returns-in_ok-walk_list-in-Many-clause-walked :
    goal.walk_field-returns-in_ok-walk_list-in-Many-clause-walked
walk_field-returns-in_ok-walk_list-in-Many-clause-walked g t c names =
    let m = moment_of c.args.ctx.now in
    let e = moment_of c.walk_list.new.ctx in
    let p = g.T.NodeLowering.profile c.args.ctx.now.options in
    let u = seen_among names (trees c.walk_list.new.nodes.items) in
    subst (λ f. WalkedField p m (seen_by names (plain_field f)) e (many u)) (sym c.in-Many.is)
    (many-walked p m (seen_among names (trees c.in-Many.nodes.items)) e u (c.in_ok-walk_list-in-Many.ensures.walked names))

pub walk_field-returns-in_ok-walk_list-in-Statements-clause-alike : goal.walk_field-returns-in_ok-walk_list-in-Statements-clause-alike
walk_field-returns-in_ok-walk_list-in-Statements-clause-alike g t c =
    subst (λ f. AlikeBy (g.T.NodeLowering.profile c.args.ctx.now.options).changes (plain_field f) (statements (trees c.walk_list-in-Statements.new.nodes.items))) (sym c.in-Statements.is) (statements_alike c.in_ok-walk_list-in-Statements.ensures.alike)

pub walk_field-returns-in_ok-walk_list-in-Statements-clause-walked :
    goal.walk_field-returns-in_ok-walk_list-in-Statements-clause-walked
walk_field-returns-in_ok-walk_list-in-Statements-clause-walked g t c names =
    let m = moment_of c.args.ctx.now in
    let e = moment_of c.walk_list-in-Statements.new.ctx in
    let p = g.T.NodeLowering.profile c.args.ctx.now.options in
    let u = seen_among names (trees c.walk_list-in-Statements.new.nodes.items) in
    subst (λ f. WalkedField p m (seen_by names (plain_field f)) e (statements u)) (sym c.in-Statements.is)
    (list-walked p m (seen_among names (trees c.in-Statements.statements.items)) e u (c.in_ok-walk_list-in-Statements.ensures.walked names))

-- A NODE

pub walk_node-walk_fields-requires : goal.walk_node-walk_fields-requires
walk_node-walk_fields-requires g t c κs lives =
    let a = c.node.inside in
    let owes = (g.T.NodeLowering.profile c.args.ctx.now.options).owes in
    let size = ap tree_size c.node.view_is in
    let heavy = ap (owed owes) c.node.view_is in
    let room : c.args.ctx.now.ast.next + owed_in owes (plain_fields a.fields.items) < 2 ^ 32 - 1 = omega (arith, c.requires.room, heavy) in
    grind (arith, size, room, c.requires.suited)

pub walk_node-lower-requires : goal.walk_node-lower-requires
walk_node-lower-requires g t c =
    let a = c.node.inside in
    let p = g.T.NodeLowering.profile c.args.ctx.now.options in
    let k = (head_of a.kind).kind in
    let l = label a.id a.span (head_of a.kind) in
    let gs = plain_fields c.walk_fields.new.fields.items in
    let paid = c.in_ok-walk_fields.ensures.paid in
    let whole = paid-node p (g.met.T.NodeLowering.lawful c.args.lowering.now c.args.ctx.now.options) k l (plain_fields a.fields.items) gs c.in_ok-walk_fields.ensures.alike paid in
    let heavy = ap (owed p.owes) c.node.view_is in
    let room : c.walk_fields.new.ctx.ast.next + owed p.owes (node k l gs) < 2 ^ 32 - 1 = omega (arith, c.requires.room, heavy, whole.lighter) in
    record {
      suited = subst (λ (q : EnvOptions). g.T.NodeLowering.suits c.args.lowering.now q) (sym paid.options) c.requires.suited;
      room = subst (λ (q : EnvOptions). c.walk_fields.new.ctx.ast.next + owed (g.T.NodeLowering.profile q).owes (node k l gs) < 2 ^ 32 - 1) (sym paid.options) room;
    }

pub walk_node-returns-clause-paid : goal.walk_node-returns-clause-paid
walk_node-returns-clause-paid g t c =
    let a = c.node.inside in
    let p = g.T.NodeLowering.profile c.args.ctx.now.options in
    let k = (head_of a.kind).kind in
    let l = label a.id a.span (head_of a.kind) in
    let gs = plain_fields c.walk_fields.new.fields.items in
    let m = moment_of c.walk_fields.new.ctx in
    let paid = c.in_ok-walk_fields.ensures.paid in
    let whole = paid-node p (g.met.T.NodeLowering.lawful c.args.lowering.now c.args.ctx.now.options) k l (plain_fields a.fields.items) gs c.in_ok-walk_fields.ensures.alike paid in
    on_ok_weaker c.lower.result
    (λ h. paid-then (subst (λ v. PaidTree p.owes (moment_of c.args.ctx.now) v m (node k l gs)) c.node.view_is whole)
    (subst (λ (q : EnvOptions). PaidTree (g.T.NodeLowering.profile q).owes m (node k l gs) (moment_of c.lower.new.ctx) c.lower.new.node) paid.options h))
    c.lower.ensures.paid

pub walk_node-returns-clause-alike : goal.walk_node-returns-clause-alike
walk_node-returns-clause-alike g t c =
    let a = c.node.inside in
    let p = g.T.NodeLowering.profile c.args.ctx.now.options in
    let k = (head_of a.kind).kind in
    let l = label a.id a.span (head_of a.kind) in
    let gs = plain_fields c.walk_fields.new.fields.items in
    on_ok_weaker c.lower.result
    (λ h. alike-then p.changes (subst (λ v. Alike p.changes v (node k l gs)) c.node.view_is (within c.in_ok-walk_fields.ensures.alike))
    (subst (λ (q : EnvOptions). Alike (g.T.NodeLowering.profile q).changes (node k l gs) c.lower.new.node) c.in_ok-walk_fields.ensures.paid.options h))
    c.lower.ensures.alike

pub walk_node-returns-clause-walked : goal.walk_node-returns-clause-walked
walk_node-returns-clause-walked g t c =
    let a = c.node.inside in
    let p = g.T.NodeLowering.profile c.args.ctx.now.options in
    let k = (head_of a.kind).kind in
    let l = label a.id a.span (head_of a.kind) in
    let fs = plain_fields a.fields.items in
    let gs = plain_fields c.walk_fields.new.fields.items in
    let m = moment_of c.walk_fields.new.ctx in
    let e = moment_of c.lower.new.ctx in
    let u = c.lower.new.node in
    let law = g.met.T.NodeLowering.lawful c.args.lowering.now c.args.ctx.now.options in
    on_ok_weaker c.lower.result
    (λ h names. subst (λ v. Walked p (moment_of c.args.ctx.now) (seen names v) e (seen names u)) c.node.view_is
    (node-seen p law (moment_of c.args.ctx.now) m e k l fs gs u names c.in_ok-walk_fields.ensures.alike (c.in_ok-walk_fields.ensures.walked names)
    (subst (λ (q : EnvOptions). Lowered (g.T.NodeLowering.profile q) m (seen names (node k l gs)) e (seen names u)) c.in_ok-walk_fields.ensures.paid.options (h names))))
    c.lower.ensures.lowered
