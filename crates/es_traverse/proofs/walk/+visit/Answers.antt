use Rattle.std.proofs.Common.{◌≡◌, ◌∙◌, ◌+◌, ◌≤◌, ◌<◌, refl, sym, ap, subst, arith, suc, length, get_or, ℕ, Option}
use Rattle.std.specs.Prelude.{None}
use Rattle.std.proofs.lemmas.List.Sums.{sum_by-take-le}
use Rattle.es_tree.specs.Heads.{head_of, label}
use Rattle.es_tree.specs.Names.{has_computed}
use Rattle.es_tree.specs.Tree.{node, Label, fields_size, many, one, statements, trees, kind_of, label_of}
use Rattle.es_tree.specs.Views.{plain_field, plain_fields}
use Rattle.es_tree.specs.Words.{Text}
use Rattle.es_runs.specs.Weights.{fields_weight}
use Rattle.es_scope.specs.Contexts.{around_of}
use Rattle.es_scope.specs.declared.ancestor.Ancestor.{Ancestor}
use Rattle.es_resolution.specs.Seen.{seen, seen_among, seen_in, seen_marks}
use Rattle.es_steps.specs.Open.{is_statement_body}
use Rattle.es_visit.specs.Counts.{all_hooks, own_parameters, parameters_at, parameters_before, total}
use Rattle.es_visit.proofs.Calls.{counted_within, node_counted, parameters_counted, statements_counted}
use Rattle.es_visit.proofs.SoFar.{so_far_none, so_far_more}
use Rattle.es_visit.proofs.Sums.{fields_total-sum, trees_total-sum, total_of, parameters-within}
use Rattle.es_changes.specs.Changes.{Kept, heft}
use Rattle.es_changes.specs.Moments.{inside_of}
use Rattle.es_traverse.specs.ContextMoments.{moment}
use Rattle.es_traverse.specs.Laws.{CanVisit, IsReady, KeptVisited}
use Rattle.es_traverse.specs.Loads.{allowance, field_load, fields_load, load, own_allowance, trees_load, writing}
use Rattle.es_traverse.specs.Visits.{EnteredNode, VisitedAt, VisitedField, VisitedFields, opens_at}
use Rattle.es_traverse.proofs.FieldVisits.{fields-seen-all, fields-seen-more, fields-seen-none, seen_field}
use Rattle.es_traverse.proofs.Kept.{body-seen, kept-closed, kept-plus, kept-then, ready-then, ready-within, same-place}
use Rattle.es_traverse.proofs.KeptParts.{KeptField, kept-fields-all, kept-fields-more, kept-fields-none, kept-trees-all, kept-trees-more, kept-trees-none, lighter-field, lighter-tree, place-outside, plain_load, ready-field, ready-tree, untouched-more, untouched-none}
use Rattle.es_traverse.proofs.LoadParts.{allowance-room}
use Rattle.es_traverse.proofs.ListVisits.{list-seen-all, list-seen-more, list-seen-none}
use Rattle.es_traverse.proofs.Moments.{moment_inside, moment_left}
use Rattle.es_traverse.proofs.NodeVisits.{visited-whole}
use Rattle.es_traverse.proofs.Nodes.{same-body}
use Rattle.es_traverse.proofs.Parts.{inside-list, inside-opened, kept-list, kept-node, kept-viewed, ready-inside, visited-list, visited-many, visited-missing, visited-one, visited-parameters, visited-statements}
use Rattle.es_traverse.proofs.walk.+visit.Goals as goal

-- NODES

pub visit_nodes-loop-index-init : goal.visit_nodes-loop-index-init
visit_nodes-loop-index-init g t c =
    record {
      kept = kept-trees-none _ _;
      untouched = untouched-none _;
      seen = list-seen-none (g.T.Lowering.profile c.args.ctx.now.options) (g.met.T.Traverse.lawful c.args.t.now c.args.ctx.now.options) _ _;
      so_far = so_far_none _ _ _ c.requires.ready.suited;
    }

pub visit_nodes-visit_node-requires : goal.visit_nodes-visit_node-requires
visit_nodes-visit_node-requires g t c κs within =
    let l : c.loop-index.index < length c.loop-index.nodes.items = omega (arith, c.loop-index.invariant.so_far.same_length) in
    let here : get_or c.loop-index.nodes.items c.loop-index.index c.index_mut.result.now ≡ c.index_mut.result.now = sym c.index_mut.ensures.value in
    let light : heft (moment g.S.Additions.pending c.loop-index.ctx) + load c.index_mut.result.now ≤ heft (moment g.S.Additions.pending c.args.ctx.now) + trees_load (trees c.args.nodes.now.items) =
    subst (λ x. heft (moment g.S.Additions.pending c.loop-index.ctx) + load x ≤ heft (moment g.S.Additions.pending c.args.ctx.now) + trees_load (trees c.args.nodes.now.items)) here (lighter-tree c.args.nodes.now.items c.loop-index.nodes.items c.loop-index.index c.index_mut.result.now l c.loop-index.invariant.kept) in
    let none : allowance c.args.site ≡ 0 = c.requires.site in
    let ready : IsReady g.T.Lowering.suits c.loop-index.t (moment g.S.Additions.pending c.loop-index.ctx) (load c.index_mut.result.now + allowance c.args.site) =
    subst (λ x. IsReady g.T.Lowering.suits c.loop-index.t (moment g.S.Additions.pending c.loop-index.ctx) (load x + allowance c.args.site)) here (ready-tree (allowance c.args.site) c.args.t.now c.loop-index.t c.args.nodes.now.items c.loop-index.nodes.items c.loop-index.index c.index_mut.result.now none l c.loop-index.invariant.kept c.loop-index.invariant.so_far.calls.suits_still c.requires.ready) in
    let can : CanVisit g.S.Additions.pending g.T.Lowering.keeps (g.T.Lowering.profile c.loop-index.ctx.options) = subst (λ o. CanVisit g.S.Additions.pending g.T.Lowering.keeps (g.T.Lowering.profile o)) (sym c.loop-index.invariant.kept.options) c.requires.can in
    let deep : 0 < length (around_of c.loop-index.ctx) = omega (arith, c.requires.deep, ap length c.loop-index.invariant.kept.around) in
    grind (arith, light, none, ready, deep, can)

pub visit_nodes-loop-index-preserved : goal.visit_nodes-loop-index-preserved
visit_nodes-loop-index-preserved g t c =
    let l : c.loop-index.index < length c.loop-index.nodes.items = omega (arith, c.loop-index.invariant.so_far.same_length) in
    let here : get_or c.loop-index.nodes.items c.loop-index.index c.index_mut.result.now ≡ c.index_mut.result.now = sym c.index_mut.ensures.value in
    let kept : KeptVisited (allowance c.args.site) (moment g.S.Additions.pending c.loop-index.ctx) (get_or c.loop-index.nodes.items c.loop-index.index c.index_mut.result.now) (moment g.S.Additions.pending c.visit_node.new.ctx) c.visit_node.new.node =
    subst (λ x. KeptVisited (allowance c.args.site) (moment g.S.Additions.pending c.loop-index.ctx) x (moment g.S.Additions.pending c.visit_node.new.ctx) c.visit_node.new.node) (sym here) c.in_ok-visit_node.ensures.kept in
    let options = c.loop-index.invariant.kept.options in
    record {
      kept = kept-trees-more (allowance c.args.site) c.args.nodes.now.items c.loop-index.nodes.items c.loop-index.index c.index_mut.result.now c.visit_node.new.node c.requires.site l kept c.loop-index.invariant.kept;
      untouched = untouched-more c.args.nodes.now.items c.loop-index.nodes.items c.loop-index.index c.visit_node.new.node c.loop-index.invariant.untouched;
      seen = list-seen-more g.T.Lowering.profile c.args.site c.args.nodes.now.items c.loop-index.nodes.items c.loop-index.index c.index_mut.result.now c.visit_node.new.node (g.met.T.Traverse.lawful c.args.t.now c.args.ctx.now.options) c.requires.site options (same-place kept) l (c.loop-index.invariant.untouched c.loop-index.index c.index_mut.result.now (omega arith))
          (λ names. subst (λ x. VisitedAt c.args.site (g.T.Lowering.profile c.loop-index.ctx.options) (moment g.S.Additions.pending c.loop-index.ctx) (seen names x) (moment g.S.Additions.pending c.visit_node.new.ctx) (seen names c.visit_node.new.node)) (sym here) (c.in_ok-visit_node.ensures.visited names)) c.loop-index.invariant.seen;
      so_far = so_far_more c.loop-index.invariant.so_far c.visit_node.new.node (λ n. 0) l tt (counted_within options (λ m. omega arith) c.in_ok-visit_node.ensures.calls) (omega (arith, c.in_ok-visit_node.ensures.cost)) (λ n. omega arith);
    }

pub visit_nodes-returns-clause-kept : goal.visit_nodes-returns-clause-kept
visit_nodes-returns-clause-kept g t c =
    kept-trees-all c.args.nodes.now.items c.loop-index.nodes.items c.loop-index.index (omega (arith, c.loop-index.invariant.so_far.same_length)) c.loop-index.invariant.kept

pub visit_nodes-returns-clause-visited : goal.visit_nodes-returns-clause-visited
visit_nodes-returns-clause-visited g t c =
    list-seen-all (g.T.Lowering.profile c.args.ctx.now.options) c.args.nodes.now.items c.loop-index.nodes.items c.loop-index.index (omega (arith, c.loop-index.invariant.so_far.same_length)) c.loop-index.invariant.seen

pub visit_nodes-returns-clause-calls : goal.visit_nodes-returns-clause-calls
visit_nodes-returns-clause-calls g t c =
    counted_within refl (λ m. omega (arith, trees_total-sum m c.loop-index.nodes.items, sum_by-take-le (total m) c.loop-index.nodes.items c.loop-index.index)) c.loop-index.invariant.so_far.calls

pub visit_nodes-returns-clause-cost : goal.visit_nodes-returns-clause-cost
visit_nodes-returns-clause-cost g t c =
    omega (arith, c.loop-index.invariant.so_far.cost, trees_total-sum all_hooks c.loop-index.nodes.items, sum_by-take-le (total all_hooks) c.loop-index.nodes.items c.loop-index.index)

-- FIELDS

pub visit_fields-loop-index-init : goal.visit_fields-loop-index-init
visit_fields-loop-index-init g t c =
    record {
      kept = kept-fields-none _ _ _;
      untouched = untouched-none _;
      seen = fields-seen-none (g.T.Lowering.profile c.args.ctx.now.options) (g.met.T.Traverse.lawful c.args.t.now c.args.ctx.now.options) _ _ _ _;
      so_far = so_far_none _ _ _ c.requires.ready.suited;
    }

pub visit_fields-visit_field-requires : goal.visit_fields-visit_field-requires
visit_fields-visit_field-requires g t c κs within =
    let x : Ancestor = record { kind = c.args.parent.kind; field = c.loop-index.index; node = c.args.parent.node } in
    let e : moment g.S.Additions.pending c.enter_place.new.self ≡ inside_of x (moment g.S.Additions.pending c.loop-index.ctx) =
    moment_inside g.S.Additions.pending c.loop-index.ctx c.enter_place.new.self x c.in_ok-enter_place.ensures.around c.in_ok-enter_place.ensures.state c.in_ok-enter_place.ensures.ast c.in_ok-enter_place.ensures.options c.in_ok-enter_place.ensures.table c.in_ok-enter_place.ensures.names in
    let l : c.loop-index.index < length c.loop-index.fields.items = omega (arith, c.loop-index.invariant.so_far.same_length) in
    let here : get_or c.loop-index.fields.items c.loop-index.index c.index_mut.result.now ≡ c.index_mut.result.now = sym c.index_mut.ensures.value in
    let room = allowance-room c.site_at.result c.args.parent.kind c.loop-index.index c.args.parent.is_computed c.site_at.ensures.slots c.site_at.ensures.bodies in
    let more = allowance c.site_at.result in
    let light : heft (moment g.S.Additions.pending c.enter_place.new.self) + (field_load (plain_field c.index_mut.result.now) + more) ≤ heft (moment g.S.Additions.pending c.args.ctx.now) + (fields_load (plain_fields c.args.fields.now.items) + own_allowance c.args.parent.kind) =
    subst (λ y. heft (moment g.S.Additions.pending c.enter_place.new.self) + (plain_load y + more) ≤ heft (moment g.S.Additions.pending c.args.ctx.now) + (fields_load (plain_fields c.args.fields.now.items) + own_allowance c.args.parent.kind)) here
    (lighter-field x e c.args.parent.kind more c.args.fields.now.items c.loop-index.fields.items c.loop-index.index c.index_mut.result.now l room c.loop-index.invariant.kept) in
    let ready : IsReady g.T.Lowering.suits c.loop-index.t (moment g.S.Additions.pending c.enter_place.new.self) (field_load (plain_field c.index_mut.result.now) + more) =
    subst (λ y. IsReady g.T.Lowering.suits c.loop-index.t (moment g.S.Additions.pending c.enter_place.new.self) (plain_load y + more)) here (ready-field x e c.args.parent.kind more c.args.t.now c.loop-index.t c.args.fields.now.items c.loop-index.fields.items c.loop-index.index c.index_mut.result.now l room c.loop-index.invariant.kept c.loop-index.invariant.so_far.calls.suits_still c.requires.ready) in
    let can : CanVisit g.S.Additions.pending g.T.Lowering.keeps (g.T.Lowering.profile c.enter_place.new.self.options) = subst (λ o. CanVisit g.S.Additions.pending g.T.Lowering.keeps (g.T.Lowering.profile o)) (sym (ap (λ y. y.options) e ∙ c.loop-index.invariant.kept.options)) c.requires.can in
    let deep : 1 < length (around_of c.enter_place.new.self) = omega (arith, c.requires.deep, ap length c.in_ok-enter_place.ensures.around, ap length c.loop-index.invariant.kept.around) in
    grind (arith, light, ready, deep, can)

pub visit_fields-leave_place-requires : goal.visit_fields-leave_place-requires
visit_fields-leave_place-requires g t c =
    omega (arith, ap length c.in_ok-visit_field.ensures.kept.around, ap length c.in_ok-enter_place.ensures.around)

pub visit_fields-loop-index-preserved : goal.visit_fields-loop-index-preserved
visit_fields-loop-index-preserved g t c =
    let x : Ancestor = record { kind = c.args.parent.kind; field = c.loop-index.index; node = c.args.parent.node } in
    let e : moment g.S.Additions.pending c.enter_place.new.self ≡ inside_of x (moment g.S.Additions.pending c.loop-index.ctx) =
    moment_inside g.S.Additions.pending c.loop-index.ctx c.enter_place.new.self x c.in_ok-enter_place.ensures.around c.in_ok-enter_place.ensures.state c.in_ok-enter_place.ensures.ast c.in_ok-enter_place.ensures.options c.in_ok-enter_place.ensures.table c.in_ok-enter_place.ensures.names in
    let l : c.loop-index.index < length c.loop-index.fields.items = omega (arith, c.loop-index.invariant.so_far.same_length) in
    let here : get_or c.loop-index.fields.items c.loop-index.index c.index_mut.result.now ≡ c.index_mut.result.now = sym c.index_mut.ensures.value in
    let room = allowance-room c.site_at.result c.args.parent.kind c.loop-index.index c.args.parent.is_computed c.site_at.ensures.slots c.site_at.ensures.bodies in
    let more = allowance c.site_at.result in
    let kept : KeptField more (moment g.S.Additions.pending c.enter_place.new.self) (get_or c.loop-index.fields.items c.loop-index.index c.index_mut.result.now) (moment g.S.Additions.pending c.visit_field.new.ctx) c.visit_field.new.field =
    subst (λ y. KeptField more (moment g.S.Additions.pending c.enter_place.new.self) y (moment g.S.Additions.pending c.visit_field.new.ctx) c.visit_field.new.field) (sym here) c.in_ok-visit_field.ensures.kept in
    let n : moment g.S.Additions.pending c.visit_field.new.ctx ≡ inside_of x (moment g.S.Additions.pending c.leave_place.new.self) =
    moment_left g.S.Additions.pending c.visit_field.new.ctx c.leave_place.new.self x (kept.around ∙ c.in_ok-enter_place.ensures.around) c.leave_place.ensures.around c.leave_place.ensures.state c.leave_place.ensures.ast c.leave_place.ensures.options c.leave_place.ensures.table c.leave_place.ensures.names in
    let options = c.loop-index.invariant.kept.options in
    let one_more : suc c.loop-index.index ≡ c.loop-index.index + 1 = omega arith in
    record {
      kept = kept-fields-more x e c.args.parent.kind more c.args.fields.now.items c.loop-index.fields.items c.loop-index.index c.index_mut.result.now c.visit_field.new.field n l room kept c.loop-index.invariant.kept;
      untouched = untouched-more c.args.fields.now.items c.loop-index.fields.items c.loop-index.index c.visit_field.new.field c.loop-index.invariant.untouched;
      seen = fields-seen-more g.T.Lowering.profile x c.args.parent.is_computed c.args.parent.kind c.site_at.result c.args.fields.now.items c.loop-index.fields.items c.index_mut.result.now c.visit_field.new.field (g.met.T.Traverse.lawful c.args.t.now c.args.ctx.now.options) c.requires.can.sound e n options (place-outside x e n kept) refl l
          (c.loop-index.invariant.untouched c.loop-index.index c.index_mut.result.now (omega arith)) c.site_at.ensures.bodies c.site_at.ensures.slots
          (λ names. subst (λ y. VisitedField (g.T.Lowering.profile c.enter_place.new.self.options) c.site_at.result (moment g.S.Additions.pending c.enter_place.new.self) (seen_field names y) (moment g.S.Additions.pending c.visit_field.new.ctx) (seen_field names c.visit_field.new.field)) (sym here) (c.in_ok-visit_field.ensures.visited names)) c.loop-index.invariant.seen;
      so_far = so_far_more c.loop-index.invariant.so_far c.visit_field.new.field (λ n. parameters_at n c.args.parent.kind c.loop-index.index) l tt
          (counted_within (ap (λ y. y.options) e ∙ options) (λ m. omega (arith, c.site_at.ensures.parameters m.parameters)) c.in_ok-visit_field.ensures.calls) (omega (arith, c.in_ok-visit_field.ensures.cost, c.site_at.ensures.parameters 2)) (λ n. omega (arith, ap (λ j. parameters_before n c.args.parent.kind j) one_more));
    }

pub visit_fields-returns-clause-kept : goal.visit_fields-returns-clause-kept
visit_fields-returns-clause-kept g t c =
    kept-fields-all c.args.parent.kind c.args.fields.now.items c.loop-index.fields.items c.loop-index.index (omega (arith, c.loop-index.invariant.so_far.same_length)) c.loop-index.invariant.kept

pub visit_fields-returns-clause-visited : goal.visit_fields-returns-clause-visited
visit_fields-returns-clause-visited g t c =
    fields-seen-all (g.T.Lowering.profile c.args.ctx.now.options) c.args.parent.is_computed c.args.parent.kind c.args.fields.now.items c.loop-index.fields.items c.loop-index.index (omega (arith, c.loop-index.invariant.so_far.same_length)) c.loop-index.invariant.seen

pub visit_fields-returns-clause-calls : goal.visit_fields-returns-clause-calls
visit_fields-returns-clause-calls g t c =
    counted_within refl (λ m. omega (arith, fields_total-sum m c.loop-index.fields.items, sum_by-take-le (total_of m) c.loop-index.fields.items c.loop-index.index, parameters-within m.parameters c.args.parent.kind c.loop-index.index)) c.loop-index.invariant.so_far.calls

pub visit_fields-returns-clause-cost : goal.visit_fields-returns-clause-cost
visit_fields-returns-clause-cost g t c =
    omega (arith, c.loop-index.invariant.so_far.cost, fields_total-sum all_hooks c.loop-index.fields.items, sum_by-take-le (total_of all_hooks) c.loop-index.fields.items c.loop-index.index, parameters-within 2 c.args.parent.kind c.loop-index.index)

-- PARAMETERS

pub visit_parameters-visit_nodes-requires : goal.visit_parameters-visit_nodes-requires
visit_parameters-visit_nodes-requires g t c κs within =
    let kept = c.in_ok-enter_formal_parameters.ensures.kept in
    let ready : IsReady g.T.Lowering.suits c.enter_formal_parameters.new.self (moment g.S.Additions.pending c.enter_formal_parameters.new.ctx) (trees_load (trees c.enter_formal_parameters.new.parameters.items)) = ready-then _ _ kept c.in_ok-enter_formal_parameters.ensures.goes.suits_still c.requires.ready in
    let can : CanVisit g.S.Additions.pending g.T.Lowering.keeps (g.T.Lowering.profile c.enter_formal_parameters.new.ctx.options) = subst (λ o. CanVisit g.S.Additions.pending g.T.Lowering.keeps (g.T.Lowering.profile o)) (sym kept.options) c.requires.can in
    let deep : 0 < length (around_of c.enter_formal_parameters.new.ctx) = omega (arith, c.requires.deep, ap length kept.around) in
    grind (arith, kept.lighter, ready, deep, can)

pub visit_parameters-exit_formal_parameters-requires : goal.visit_parameters-exit_formal_parameters-requires
visit_parameters-exit_formal_parameters-requires g t c =
    record { ready = ready-then _ _ c.in_ok-visit_nodes.ensures.kept c.in_ok-visit_nodes.ensures.calls.suits_still (ready-then _ _ c.in_ok-enter_formal_parameters.ensures.kept c.in_ok-enter_formal_parameters.ensures.goes.suits_still c.requires.ready) }

pub visit_parameters-returns-clause-visited : goal.visit_parameters-returns-clause-visited
visit_parameters-returns-clause-visited g t c names =
    let first = c.in_ok-enter_formal_parameters.ensures.kept in
    let second = c.in_ok-visit_nodes.ensures.kept in
    visited-parameters g.T.Lowering.profile _ _ _ _ (g.met.T.Traverse.lawful c.args.t.now c.args.ctx.now.options) (same-place first) (same-place second) first.options (second.options ∙ first.options) (c.in_ok-enter_formal_parameters.ensures.entered names) (c.in_ok-visit_nodes.ensures.visited names) (c.in_ok-exit_formal_parameters.ensures.exited names)

pub visit_parameters-returns-clause-calls : goal.visit_parameters-returns-clause-calls
visit_parameters-returns-clause-calls g t c =
    parameters_counted _ _ c.in_ok-enter_formal_parameters.ensures.kept.options c.in_ok-visit_nodes.ensures.kept.options c.in_ok-enter_formal_parameters.ensures.goes c.in_ok-visit_nodes.ensures.calls c.in_ok-exit_formal_parameters.ensures.goes c.in_ok-exit_formal_parameters.ensures.ids

pub visit_parameters-returns-clause-cost : goal.visit_parameters-returns-clause-cost
visit_parameters-returns-clause-cost g t c =
    omega (arith, c.in_ok-visit_nodes.ensures.cost, c.in_ok-exit_formal_parameters.ensures.ids all_hooks)

-- STATEMENTS

pub visit_statements-visit_nodes-requires : goal.visit_statements-visit_nodes-requires
visit_statements-visit_nodes-requires g t c κs within =
    let inside = inside-list g.T.Lowering.keeps (moment g.S.Additions.pending c.args.ctx.now) c.in_ok-enter_statements.ensures.kept in
    let ready : IsReady g.T.Lowering.suits c.enter_statements.new.self (moment g.S.Additions.pending c.enter_statements.new.ctx) (trees_load (trees c.enter_statements.new.statements.items)) = ready-inside _ _ (trees_load (trees c.enter_statements.new.statements.items)) (omega arith) inside c.in_ok-enter_statements.ensures.goes.suits_still c.requires.ready in
    let can : CanVisit g.S.Additions.pending g.T.Lowering.keeps (g.T.Lowering.profile c.enter_statements.new.ctx.options) = subst (λ o. CanVisit g.S.Additions.pending g.T.Lowering.keeps (g.T.Lowering.profile o)) (sym inside.options) c.requires.can in
    let deep : 0 < length (around_of c.enter_statements.new.ctx) = omega (arith, c.requires.deep, ap length inside.around) in
    grind (arith, inside.lighter, ready, deep, can)

pub visit_statements-exit_statements-requires : goal.visit_statements-exit_statements-requires
visit_statements-exit_statements-requires g t c =
    record {
      ready = ready-then _ _ c.in_ok-visit_nodes.ensures.kept c.in_ok-visit_nodes.ensures.calls.suits_still
          (ready-inside _ _ (trees_load (trees c.enter_statements.new.statements.items)) (omega arith) (inside-list g.T.Lowering.keeps (moment g.S.Additions.pending c.args.ctx.now) c.in_ok-enter_statements.ensures.kept) c.in_ok-enter_statements.ensures.goes.suits_still c.requires.ready);
    }

pub visit_statements-returns-clause-kept : goal.visit_statements-returns-clause-kept
visit_statements-returns-clause-kept g t c =
    kept-list g.T.Lowering.keeps (moment g.S.Additions.pending c.args.ctx.now) (moment g.S.Additions.pending c.exit_statements.new.ctx) c.requires.deep c.in_ok-enter_statements.ensures.kept c.in_ok-visit_nodes.ensures.kept c.in_ok-exit_statements.ensures.kept

pub visit_statements-returns-clause-visited : goal.visit_statements-returns-clause-visited
visit_statements-returns-clause-visited g t c names =
    visited-list g.T.Lowering.keeps (moment g.S.Additions.pending c.args.ctx.now) (moment g.S.Additions.pending c.exit_statements.new.ctx) c.requires.deep c.in_ok-enter_statements.ensures.kept c.in_ok-visit_nodes.ensures.kept c.in_ok-exit_statements.ensures.kept (c.requires.can.pairs c.args.ctx.now.state) (c.requires.can.pairs c.exit_statements.new.ctx.state) g.T.Lowering.profile _ _ _ _ (g.met.T.Traverse.lawful c.args.t.now c.args.ctx.now.options)
    (c.in_ok-enter_statements.ensures.entered names) (c.in_ok-visit_nodes.ensures.visited names) (c.in_ok-exit_statements.ensures.exited names)

pub visit_statements-returns-clause-calls : goal.visit_statements-returns-clause-calls
visit_statements-returns-clause-calls g t c =
    statements_counted _ _ (inside-list g.T.Lowering.keeps (moment g.S.Additions.pending c.args.ctx.now) c.in_ok-enter_statements.ensures.kept).options c.in_ok-visit_nodes.ensures.kept.options c.in_ok-enter_statements.ensures.goes c.in_ok-visit_nodes.ensures.calls c.in_ok-exit_statements.ensures.goes c.in_ok-exit_statements.ensures.ids

pub visit_statements-returns-clause-cost : goal.visit_statements-returns-clause-cost
visit_statements-returns-clause-cost g t c =
    omega (arith, c.in_ok-visit_nodes.ensures.cost, c.in_ok-exit_statements.ensures.ids all_hooks)

-- A NODE

pub visit_node-visit_fields-requires : goal.visit_node-visit_fields-requires
visit_node-visit_fields-requires g t c κs within =
    let a = c.node.inside in
    let k = (head_of a.kind).kind in
    let l = label a.id a.span (head_of a.kind) in
    let fs = plain_fields a.fields.items in
    let start = moment g.S.Additions.pending c.args.ctx.now in
    let kept = kept-viewed (writing c.args.site) (node k l fs) c.enter_node.new.node c.node.view_is c.in_ok-enter_node.ensures.kept in
    let inside = inside-opened c.args.site g.T.Lowering.keeps c.args.node.now kept in
    let kind : c.parent_of-parent.result.kind ≡ k = c.parent_of-parent.ensures.kind ∙ ap kind_of (sym c.node.view_is) in
    let more = fields_load fs + own_allowance c.parent_of-parent.result.kind in
    let lighter : heft (moment g.S.Additions.pending c.enter_node.new.ctx) + suc more ≤ heft start + (load c.args.node.now + allowance c.args.site) = omega (arith, inside.lighter, ap own_allowance kind) in
    let ready : IsReady g.T.Lowering.suits c.enter_node.new.t (moment g.S.Additions.pending c.enter_node.new.ctx) more = ready-inside _ _ more (omega (arith, ap own_allowance kind)) inside c.in_ok-enter_node.ensures.goes.suits_still c.requires.ready in
    let can : CanVisit g.S.Additions.pending g.T.Lowering.keeps (g.T.Lowering.profile c.enter_node.new.ctx.options) = subst (λ o. CanVisit g.S.Additions.pending g.T.Lowering.keeps (g.T.Lowering.profile o)) (sym inside.options) c.requires.can in
    let deep : 0 < length (around_of c.enter_node.new.ctx) = omega (arith, c.requires.deep, ap length inside.around) in
    grind (arith, lighter, ready, deep, can)

pub visit_node-exit_node-requires : goal.visit_node-exit_node-requires
visit_node-exit_node-requires g t c =
    let a = c.node.inside in
    let k = (head_of a.kind).kind in
    let l = label a.id a.span (head_of a.kind) in
    let fs = plain_fields a.fields.items in
    let gs = plain_fields c.visit_fields.new.fields.items in
    let kept = kept-viewed (writing c.args.site) (node k l fs) c.enter_node.new.node c.node.view_is c.in_ok-enter_node.ensures.kept in
    let kind : c.parent_of-parent.result.kind ≡ k = c.parent_of-parent.ensures.kind ∙ ap kind_of (sym c.node.view_is) in
    let fields : Kept (moment g.S.Additions.pending c.enter_node.new.ctx) (fields_load fs + own_allowance k) (fields_size fs) (moment g.S.Additions.pending c.visit_fields.new.ctx) (fields_weight gs) (fields_size gs) =
    subst (λ q. Kept (moment g.S.Additions.pending c.enter_node.new.ctx) (fields_load fs + own_allowance q) (fields_size fs) (moment g.S.Additions.pending c.visit_fields.new.ctx) (fields_weight gs) (fields_size gs)) kind c.in_ok-visit_fields.ensures.kept in
    record {
      ready = ready-then _ _ (kept-plus (writing c.args.site) (kept-node k l fs gs fields)) c.in_ok-visit_fields.ensures.calls.suits_still
          (ready-inside _ _ (load (node k l fs) + writing c.args.site) (omega arith) (inside-opened c.args.site g.T.Lowering.keeps c.args.node.now kept) c.in_ok-enter_node.ensures.goes.suits_still c.requires.ready);
    }

pub visit_node-returns-clause-kept : goal.visit_node-returns-clause-kept
visit_node-returns-clause-kept g t c =
    let a = c.node.inside in
    let k = (head_of a.kind).kind in
    let l = label a.id a.span (head_of a.kind) in
    let fs = plain_fields a.fields.items in
    let gs = plain_fields c.visit_fields.new.fields.items in
    let kept = kept-viewed (writing c.args.site) (node k l fs) c.enter_node.new.node c.node.view_is c.in_ok-enter_node.ensures.kept in
    let names : ℕ → Text → Option ℕ = λ n x. None in
    let entered : is_statement_body c.enter_node.new.node ≡ is_statement_body c.args.node.now = sym (body-seen names c.enter_node.new.node) ∙ ((c.in_ok-enter_node.ensures.entered names).body ∙ body-seen names c.args.node.now) in
    let body : is_statement_body (node k l gs) ≡ is_statement_body c.args.node.now = same-body k l fs gs ∙ (ap (λ x. is_statement_body x) c.node.view_is ∙ entered) in
    let kind : c.parent_of-parent.result.kind ≡ k = c.parent_of-parent.ensures.kind ∙ ap kind_of (sym c.node.view_is) in
    let fields : Kept (moment g.S.Additions.pending c.enter_node.new.ctx) (fields_load fs + own_allowance k) (fields_size fs) (moment g.S.Additions.pending c.visit_fields.new.ctx) (fields_weight gs) (fields_size gs) =
    subst (λ q. Kept (moment g.S.Additions.pending c.enter_node.new.ctx) (fields_load fs + own_allowance q) (fields_size fs) (moment g.S.Additions.pending c.visit_fields.new.ctx) (fields_weight gs) (fields_size gs)) kind c.in_ok-visit_fields.ensures.kept in
    kept-closed c.args.site g.T.Lowering.keeps c.args.node.now (node k l gs) body (kept-then kept (kept-then (kept-plus (writing c.args.site) (kept-node k l fs gs fields)) c.in_ok-exit_node.ensures.kept))

pub visit_node-returns-clause-visited : goal.visit_node-returns-clause-visited
visit_node-returns-clause-visited g t c names =
    let a = c.node.inside in
    let k = (head_of a.kind).kind in
    let l = label a.id a.span (head_of a.kind) in
    let fs = plain_fields a.fields.items in
    let gs = plain_fields c.visit_fields.new.fields.items in
    let start = moment g.S.Additions.pending c.args.ctx.now in
    let p = g.T.Lowering.profile c.args.ctx.now.options in
    let entered : EnteredNode p c.args.site (opens_at c.args.site g.T.Lowering.keeps (seen names c.args.node.now) start) (seen names c.args.node.now) (moment g.S.Additions.pending c.enter_node.new.ctx) (seen names (node k l fs)) =
    subst (λ x. EnteredNode p c.args.site (opens_at c.args.site g.T.Lowering.keeps (seen names c.args.node.now) start) (seen names c.args.node.now) (moment g.S.Additions.pending c.enter_node.new.ctx) (seen names x)) (sym c.node.view_is) (c.in_ok-enter_node.ensures.entered names) in
    let kind : c.parent_of-parent.result.kind ≡ k = c.parent_of-parent.ensures.kind ∙ ap kind_of (sym c.node.view_is) in
    let computed : c.parent_of-parent.result.is_computed ≡ has_computed c.parent_of-parent.result.kind l.flags = c.parent_of-parent.ensures.computed ∙ (ap (λ x. has_computed (kind_of x) (label_of x).flags) (sym c.node.view_is) ∙ ap (λ q. has_computed q l.flags) (sym kind)) in
    let m : Label = record l { id = 0; marks = seen_marks names k l fs } in
    let visited : VisitedFields (g.T.Lowering.profile c.enter_node.new.ctx.options) k m (moment g.S.Additions.pending c.enter_node.new.ctx) (seen_in names fs) (moment g.S.Additions.pending c.visit_fields.new.ctx) (seen_in names gs) =
    subst (λ q. VisitedFields (g.T.Lowering.profile c.enter_node.new.ctx.options) q m (moment g.S.Additions.pending c.enter_node.new.ctx) (seen_in names fs) (moment g.S.Additions.pending c.visit_fields.new.ctx) (seen_in names gs)) kind (c.in_ok-visit_fields.ensures.visited names m computed) in
    visited-whole g.T.Lowering.profile g.T.Lowering.keeps c.args.site start (moment g.S.Additions.pending c.exit_node.new.ctx) c.args.node.now k l fs gs (seen names c.exit_node.new.node) (g.met.T.Traverse.lawful c.args.t.now c.args.ctx.now.options) (c.requires.can.pairs c.args.ctx.now.state) (c.requires.can.pairs c.exit_node.new.ctx.state) c.in_ok-enter_node.ensures.kept c.in_ok-visit_fields.ensures.kept names entered visited (c.in_ok-exit_node.ensures.exited names)

pub visit_node-returns-clause-calls : goal.visit_node-returns-clause-calls
visit_node-returns-clause-calls g t c =
    let a = c.node.inside in
    let k = (head_of a.kind).kind in
    let l = label a.id a.span (head_of a.kind) in
    let kind : c.parent_of-parent.result.kind ≡ k = c.parent_of-parent.ensures.kind ∙ ap kind_of (sym c.node.view_is) in
    let inside = inside-opened c.args.site g.T.Lowering.keeps c.args.node.now c.in_ok-enter_node.ensures.kept in
    node_counted k l (plain_fields c.visit_fields.new.fields.items) c.exit_node.new.node inside.options c.in_ok-visit_fields.ensures.kept.options c.in_ok-enter_node.ensures.goes
    (counted_within refl (λ m. omega (arith, ap (λ q. own_parameters m.parameters q) kind)) c.in_ok-visit_fields.ensures.calls) c.in_ok-exit_node.ensures.goes c.in_ok-exit_node.ensures.ids

pub visit_node-returns-clause-cost : goal.visit_node-returns-clause-cost
visit_node-returns-clause-cost g t c =
    let kind : c.parent_of-parent.result.kind ≡ (head_of c.node.inside.kind).kind = c.parent_of-parent.ensures.kind ∙ ap kind_of (sym c.node.view_is) in
    omega (arith, c.in_ok-enter_node.ensures.cost, c.in_ok-visit_fields.ensures.cost, c.in_ok-exit_node.ensures.cost, c.in_ok-exit_node.ensures.ids.all all_hooks, ap (λ q. own_parameters 2 q) kind)

-- WHAT STANDS IN A FIELD

pub visit_field-visit_list-requires : goal.visit_field-visit_list-requires
visit_field-visit_list-requires g t c κs within =
    let same : field_load (plain_field c.args.field.now) ≡ trees_load (trees c.in-Many.nodes.items) = ap (λ f. field_load (plain_field f)) c.in-Many.is in
    let ready : IsReady g.T.Lowering.suits c.args.t.now (moment g.S.Additions.pending c.args.ctx.now) (trees_load (trees c.in-Many.nodes.items)) = ready-within _ _ (omega (arith, same)) c.requires.ready in
    let deep : 0 < length (around_of c.args.ctx.now) = omega (arith, c.requires.deep) in
    grind (arith, same, ready, deep, c.requires.can)

pub visit_field-visit_statements-requires : goal.visit_field-visit_statements-requires
visit_field-visit_statements-requires g t c κs within =
    let same : field_load (plain_field c.args.field.now) ≡ trees_load (trees c.in-Statements.statements.items) = ap (λ f. field_load (plain_field f)) c.in-Statements.is in
    let ready : IsReady g.T.Lowering.suits c.args.t.now (moment g.S.Additions.pending c.args.ctx.now) (trees_load (trees c.in-Statements.statements.items)) = ready-within _ _ (omega (arith, same)) c.requires.ready in
    grind (arith, same, ready, c.requires.deep, c.requires.can)

pub visit_field-returns-in-Missing-clause-visited : goal.visit_field-returns-in-Missing-clause-visited
visit_field-returns-in-Missing-clause-visited g t c names =
    let p = g.T.Lowering.profile c.args.ctx.now.options in
    let a = moment g.S.Additions.pending c.args.ctx.now in
    subst (λ f. VisitedField p c.args.site a (seen_field names f) a (seen_field names f)) (sym c.in-Missing.is) (visited-missing p (g.met.T.Traverse.lawful c.args.t.now c.args.ctx.now.options) c.args.site a)

pub visit_field-returns-in_ok-visit_node-in-One-clause-visited : goal.visit_field-returns-in_ok-visit_node-in-One-clause-visited
visit_field-returns-in_ok-visit_node-in-One-clause-visited g t c names =
    let p = g.T.Lowering.profile c.args.ctx.now.options in
    let a = moment g.S.Additions.pending c.args.ctx.now in
    subst (λ f. VisitedField p c.args.site a (seen_field names f) (moment g.S.Additions.pending c.visit_node.new.ctx) (one (seen names c.visit_node.new.node))) (sym c.in-One.is)
    (visited-one p (g.met.T.Traverse.lawful c.args.t.now c.args.ctx.now.options) c.args.site _ (seen names c.visit_node.new.node) (c.in_ok-visit_node-in-One.ensures.visited names))

pub visit_field-returns-in_ok-visit_list-in-Many-clause-visited : goal.visit_field-returns-in_ok-visit_list-in-Many-clause-visited
visit_field-returns-in_ok-visit_list-in-Many-clause-visited g t c names =
    let p = g.T.Lowering.profile c.args.ctx.now.options in
    let a = moment g.S.Additions.pending c.args.ctx.now in
    subst (λ f. VisitedField p c.args.site a (seen_field names f) (moment g.S.Additions.pending c.visit_list.new.ctx) (many (seen_among names (trees c.visit_list.new.nodes.items)))) (sym c.in-Many.is)
    (visited-many p (g.met.T.Traverse.lawful c.args.t.now c.args.ctx.now.options) c.args.site _ (seen_among names (trees c.visit_list.new.nodes.items)) (c.in_ok-visit_list-in-Many.ensures.visited names))

pub visit_field-returns-in_ok-visit_statements-in-Statements-clause-visited : goal.visit_field-returns-in_ok-visit_statements-in-Statements-clause-visited
visit_field-returns-in_ok-visit_statements-in-Statements-clause-visited g t c names =
    let p = g.T.Lowering.profile c.args.ctx.now.options in
    let a = moment g.S.Additions.pending c.args.ctx.now in
    subst (λ f. VisitedField p c.args.site a (seen_field names f) (moment g.S.Additions.pending c.visit_statements.new.ctx) (statements (seen_among names (trees c.visit_statements.new.statements.items)))) (sym c.in-Statements.is)
    (visited-statements p (g.met.T.Traverse.lawful c.args.t.now c.args.ctx.now.options) c.args.site _ (seen_among names (trees c.visit_statements.new.statements.items)) (c.in_ok-visit_statements-in-Statements.ensures.visited names))
