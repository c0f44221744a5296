use Rattle.std.proofs.Common.{◌≡◌, ◌∙◌, ◌∷◌, [], refl, sym, ap, subst, arith, length}
use Rattle.es_tree.specs.Tree.{trees}
use Rattle.es_resolution.specs.Seen.{seen_among}
use Rattle.es_scope.specs.Contexts.{around_of}
use Rattle.es_scope.specs.declared.ancestor.Ancestor.{Ancestor}
use Rattle.es_visit.specs.Counts.{all_hooks}
use Rattle.es_visit.specs.Calls.{Goes}
use Rattle.es_visit.specs.declared.hook.Hook.TheVariants.{Statements as StatementList}
use Rattle.es_visit.proofs.Calls.{statements_counted}
use Rattle.es_changes.specs.Changes.{heft}
use Rattle.es_changes.specs.Laws.{SamePlace}
use Rattle.es_changes.specs.Moments.{Moment, inside_of}
use Rattle.es_traverse.specs.ContextMoments.{moment}
use Rattle.es_traverse.specs.Laws.{CanVisit, EnteredList, ExitedList, IsReady, opens_list}
use Rattle.es_traverse.specs.Loads.{trees_load}
use Rattle.es_traverse.specs.Visits.{VisitedTrees}
use Rattle.es_traverse.proofs.Kept.{ready-then, same-place}
use Rattle.es_traverse.proofs.LoadParts.{weight-loaded-among}
use Rattle.es_traverse.proofs.Moments.{moment_inside, moment_left}
use Rattle.es_traverse.proofs.Programs.{kept-first, kept-last, kept-whole, outer-first, outer-last, program_place, visited-statements}
use Rattle.es_traverse.proofs.walk.visit_program.Goals as goal

pub enter_statements-requires : goal.enter_statements-requires
enter_statements-requires g c =
    let x : Ancestor = program_place c.args.program.now.id in
    let e : moment g.S.Additions.pending c.enter_place.new.self ≡ inside_of x (moment g.S.Additions.pending c.args.ctx.now) =
    moment_inside g.S.Additions.pending c.args.ctx.now c.enter_place.new.self x c.in_ok-enter_place.ensures.around c.in_ok-enter_place.ensures.state c.in_ok-enter_place.ensures.ast c.in_ok-enter_place.ensures.options c.in_ok-enter_place.ensures.table c.in_ok-enter_place.ensures.names in
    let ready : IsReady g.T.Lowering.suits c.args.t.now (moment g.S.Additions.pending c.enter_place.new.self) (trees_load (trees c.args.program.now.body.items)) = record {
      suited = subst (λ o. g.T.Lowering.suits c.args.t.now o) (sym c.in_ok-enter_place.ensures.options) c.requires.ready.suited;
      room = omega (arith, c.requires.ready.room, ap heft e);
      pair = omega (arith, c.requires.ready.pair, ap (λ (q : Moment). length q.lists) e);
    } in
    record { ready = ready }

pub visit_nodes-requires-clause-can : goal.visit_nodes-requires-clause-can
visit_nodes-requires-clause-can g c =
    let x : Ancestor = program_place c.args.program.now.id in
    let e : moment g.S.Additions.pending c.enter_place.new.self ≡ inside_of x (moment g.S.Additions.pending c.args.ctx.now) =
    moment_inside g.S.Additions.pending c.args.ctx.now c.enter_place.new.self x c.in_ok-enter_place.ensures.around c.in_ok-enter_place.ensures.state c.in_ok-enter_place.ensures.ast c.in_ok-enter_place.ensures.options c.in_ok-enter_place.ensures.table c.in_ok-enter_place.ensures.names in
    let at_top : (moment g.S.Additions.pending c.args.ctx.now).around ≡ [] = c.requires.top in
    let first = kept-first g.T.Lowering.keeps c.args.program.now.id e at_top c.in_ok-enter_statements.ensures.kept in
    subst (λ o. CanVisit g.S.Additions.pending g.T.Lowering.keeps (g.T.Lowering.profile o)) (sym (first.options ∙ c.in_ok-enter_place.ensures.options)) c.requires.can

pub visit_nodes-requires-clause-ready : goal.visit_nodes-requires-clause-ready
visit_nodes-requires-clause-ready g c =
    let x : Ancestor = program_place c.args.program.now.id in
    let e : moment g.S.Additions.pending c.enter_place.new.self ≡ inside_of x (moment g.S.Additions.pending c.args.ctx.now) =
    moment_inside g.S.Additions.pending c.args.ctx.now c.enter_place.new.self x c.in_ok-enter_place.ensures.around c.in_ok-enter_place.ensures.state c.in_ok-enter_place.ensures.ast c.in_ok-enter_place.ensures.options c.in_ok-enter_place.ensures.table c.in_ok-enter_place.ensures.names in
    let at_top : (moment g.S.Additions.pending c.args.ctx.now).around ≡ [] = c.requires.top in
    let ready : IsReady g.T.Lowering.suits c.args.t.now (moment g.S.Additions.pending c.enter_place.new.self) (trees_load (trees c.args.program.now.body.items)) = record {
      suited = subst (λ o. g.T.Lowering.suits c.args.t.now o) (sym c.in_ok-enter_place.ensures.options) c.requires.ready.suited;
      room = omega (arith, c.requires.ready.room, ap heft e);
      pair = omega (arith, c.requires.ready.pair, ap (λ (q : Moment). length q.lists) e);
    } in
    let first = kept-first g.T.Lowering.keeps c.args.program.now.id e at_top c.in_ok-enter_statements.ensures.kept in
    let second : IsReady g.T.Lowering.suits c.enter_statements.new.self (moment g.S.Additions.pending c.enter_statements.new.ctx) (trees_load (trees c.enter_statements.new.statements.items)) =
    ready-then c.args.t.now c.enter_statements.new.self first c.in_ok-enter_statements.ensures.goes.suits_still ready in
    second

pub visit_nodes-requires-clause-deep : goal.visit_nodes-requires-clause-deep
visit_nodes-requires-clause-deep g c =
    let x : Ancestor = program_place c.args.program.now.id in
    let e : moment g.S.Additions.pending c.enter_place.new.self ≡ inside_of x (moment g.S.Additions.pending c.args.ctx.now) =
    moment_inside g.S.Additions.pending c.args.ctx.now c.enter_place.new.self x c.in_ok-enter_place.ensures.around c.in_ok-enter_place.ensures.state c.in_ok-enter_place.ensures.ast c.in_ok-enter_place.ensures.options c.in_ok-enter_place.ensures.table c.in_ok-enter_place.ensures.names in
    let at_top : (moment g.S.Additions.pending c.args.ctx.now).around ≡ [] = c.requires.top in
    let first = kept-first g.T.Lowering.keeps c.args.program.now.id e at_top c.in_ok-enter_statements.ensures.kept in
    omega (arith, ap length first.around, ap length c.in_ok-enter_place.ensures.around)

pub exit_statements-requires : goal.exit_statements-requires
exit_statements-requires g c =
    let x : Ancestor = program_place c.args.program.now.id in
    let e : moment g.S.Additions.pending c.enter_place.new.self ≡ inside_of x (moment g.S.Additions.pending c.args.ctx.now) =
    moment_inside g.S.Additions.pending c.args.ctx.now c.enter_place.new.self x c.in_ok-enter_place.ensures.around c.in_ok-enter_place.ensures.state c.in_ok-enter_place.ensures.ast c.in_ok-enter_place.ensures.options c.in_ok-enter_place.ensures.table c.in_ok-enter_place.ensures.names in
    let at_top : (moment g.S.Additions.pending c.args.ctx.now).around ≡ [] = c.requires.top in
    let ready : IsReady g.T.Lowering.suits c.args.t.now (moment g.S.Additions.pending c.enter_place.new.self) (trees_load (trees c.args.program.now.body.items)) = record {
      suited = subst (λ o. g.T.Lowering.suits c.args.t.now o) (sym c.in_ok-enter_place.ensures.options) c.requires.ready.suited;
      room = omega (arith, c.requires.ready.room, ap heft e);
      pair = omega (arith, c.requires.ready.pair, ap (λ (q : Moment). length q.lists) e);
    } in
    let first = kept-first g.T.Lowering.keeps c.args.program.now.id e at_top c.in_ok-enter_statements.ensures.kept in
    let second : IsReady g.T.Lowering.suits c.enter_statements.new.self (moment g.S.Additions.pending c.enter_statements.new.ctx) (trees_load (trees c.enter_statements.new.statements.items)) =
    ready-then c.args.t.now c.enter_statements.new.self first c.in_ok-enter_statements.ensures.goes.suits_still ready in
    record { ready = ready-then c.enter_statements.new.self c.visit_nodes.new.t c.in_ok-visit_nodes.ensures.kept c.in_ok-visit_nodes.ensures.calls.suits_still second }

pub leave_place-requires : goal.leave_place-requires
leave_place-requires g c =
    let x : Ancestor = program_place c.args.program.now.id in
    let e : moment g.S.Additions.pending c.enter_place.new.self ≡ inside_of x (moment g.S.Additions.pending c.args.ctx.now) =
    moment_inside g.S.Additions.pending c.args.ctx.now c.enter_place.new.self x c.in_ok-enter_place.ensures.around c.in_ok-enter_place.ensures.state c.in_ok-enter_place.ensures.ast c.in_ok-enter_place.ensures.options c.in_ok-enter_place.ensures.table c.in_ok-enter_place.ensures.names in
    let at_top : (moment g.S.Additions.pending c.args.ctx.now).around ≡ [] = c.requires.top in
    let first = kept-first g.T.Lowering.keeps c.args.program.now.id e at_top c.in_ok-enter_statements.ensures.kept in
    let last = kept-last g.T.Lowering.keeps c.args.program.now.id (moment g.S.Additions.pending c.exit_statements.new.ctx) e at_top c.in_ok-enter_statements.ensures.kept c.in_ok-visit_nodes.ensures.kept c.in_ok-exit_statements.ensures.kept in
    let here : around_of c.exit_statements.new.ctx ≡ x ∷ around_of c.args.ctx.now = last.around ∙ c.in_ok-visit_nodes.ensures.kept.around ∙ first.around ∙ c.in_ok-enter_place.ensures.around in
    omega (arith, ap length here)

pub returns-clause-kept : goal.returns-clause-kept
returns-clause-kept g c =
    let x : Ancestor = program_place c.args.program.now.id in
    let e : moment g.S.Additions.pending c.enter_place.new.self ≡ inside_of x (moment g.S.Additions.pending c.args.ctx.now) =
    moment_inside g.S.Additions.pending c.args.ctx.now c.enter_place.new.self x c.in_ok-enter_place.ensures.around c.in_ok-enter_place.ensures.state c.in_ok-enter_place.ensures.ast c.in_ok-enter_place.ensures.options c.in_ok-enter_place.ensures.table c.in_ok-enter_place.ensures.names in
    let at_top : (moment g.S.Additions.pending c.args.ctx.now).around ≡ [] = c.requires.top in
    let first = kept-first g.T.Lowering.keeps c.args.program.now.id e at_top c.in_ok-enter_statements.ensures.kept in
    let last = kept-last g.T.Lowering.keeps c.args.program.now.id (moment g.S.Additions.pending c.exit_statements.new.ctx) e at_top c.in_ok-enter_statements.ensures.kept c.in_ok-visit_nodes.ensures.kept c.in_ok-exit_statements.ensures.kept in
    let here : around_of c.exit_statements.new.ctx ≡ x ∷ around_of c.args.ctx.now = last.around ∙ c.in_ok-visit_nodes.ensures.kept.around ∙ first.around ∙ c.in_ok-enter_place.ensures.around in
    let n : moment g.S.Additions.pending c.exit_statements.new.ctx ≡ inside_of x (moment g.S.Additions.pending c.leave_place.new.self) =
    moment_left g.S.Additions.pending c.exit_statements.new.ctx c.leave_place.new.self x here c.leave_place.ensures.around c.leave_place.ensures.state c.leave_place.ensures.ast c.leave_place.ensures.options c.leave_place.ensures.table c.leave_place.ensures.names in
    let whole = kept-whole g.T.Lowering.keeps c.args.program.now.id (moment g.S.Additions.pending c.exit_statements.new.ctx) e at_top c.in_ok-enter_statements.ensures.kept c.in_ok-visit_nodes.ensures.kept c.in_ok-exit_statements.ensures.kept n in
    record { level = whole.level; around = whole.around; options = whole.options; counted = whole.counted; lighter = omega (arith, whole.lighter, weight-loaded-among (trees c.args.program.now.directives.items)); nodes = omega (arith, whole.nodes) }

pub returns-clause-visited : goal.returns-clause-visited
returns-clause-visited g c = λ names.
    let x : Ancestor = program_place c.args.program.now.id in
    let e : moment g.S.Additions.pending c.enter_place.new.self ≡ inside_of x (moment g.S.Additions.pending c.args.ctx.now) =
    moment_inside g.S.Additions.pending c.args.ctx.now c.enter_place.new.self x c.in_ok-enter_place.ensures.around c.in_ok-enter_place.ensures.state c.in_ok-enter_place.ensures.ast c.in_ok-enter_place.ensures.options c.in_ok-enter_place.ensures.table c.in_ok-enter_place.ensures.names in
    let at_top : (moment g.S.Additions.pending c.args.ctx.now).around ≡ [] = c.requires.top in
    let first = kept-first g.T.Lowering.keeps c.args.program.now.id e at_top c.in_ok-enter_statements.ensures.kept in
    let last = kept-last g.T.Lowering.keeps c.args.program.now.id (moment g.S.Additions.pending c.exit_statements.new.ctx) e at_top c.in_ok-enter_statements.ensures.kept c.in_ok-visit_nodes.ensures.kept c.in_ok-exit_statements.ensures.kept in
    let here : around_of c.exit_statements.new.ctx ≡ x ∷ around_of c.args.ctx.now = last.around ∙ c.in_ok-visit_nodes.ensures.kept.around ∙ first.around ∙ c.in_ok-enter_place.ensures.around in
    let n : moment g.S.Additions.pending c.exit_statements.new.ctx ≡ inside_of x (moment g.S.Additions.pending c.leave_place.new.self) =
    moment_left g.S.Additions.pending c.exit_statements.new.ctx c.leave_place.new.self x here c.leave_place.ensures.around c.leave_place.ensures.state c.leave_place.ensures.ast c.leave_place.ensures.options c.leave_place.ensures.table c.leave_place.ensures.names in
    let whole = kept-whole g.T.Lowering.keeps c.args.program.now.id (moment g.S.Additions.pending c.exit_statements.new.ctx) e at_top c.in_ok-enter_statements.ensures.kept c.in_ok-visit_nodes.ensures.kept c.in_ok-exit_statements.ensures.kept n in
    let P = g.T.Lowering.profile in
    let a = moment g.S.Additions.pending c.args.ctx.now in
    let m = moment g.S.Additions.pending c.enter_place.new.self in
    let b = moment g.S.Additions.pending c.enter_statements.new.ctx in
    let q = moment g.S.Additions.pending c.visit_nodes.new.ctx in
    let d = moment g.S.Additions.pending c.exit_statements.new.ctx in
    let f = moment g.S.Additions.pending c.leave_place.new.self in
    let ts = seen_among names (trees c.args.program.now.body.items) in
    let us = seen_among names (trees c.enter_statements.new.statements.items) in
    let vs = seen_among names (trees c.visit_nodes.new.nodes.items) in
    let ws = seen_among names (trees c.exit_statements.new.statements.items) in
    let entered : EnteredList (P a.options) g.T.Lowering.keeps (inside_of x a) ts b us = subst (λ z. EnteredList (P z.options) g.T.Lowering.keeps z ts b us) e (c.in_ok-enter_statements.ensures.entered names) in
    let visited : VisitedTrees (P a.options) b us q vs = subst (λ o. VisitedTrees (P o) b us q vs) (first.options ∙ c.in_ok-enter_place.ensures.options) (c.in_ok-visit_nodes.ensures.visited names) in
    let exited : ExitedList (P a.options) g.T.Lowering.keeps q vs d ws = subst (λ o. ExitedList (P o) g.T.Lowering.keeps q vs d ws) (c.in_ok-visit_nodes.ensures.kept.options ∙ (first.options ∙ c.in_ok-enter_place.ensures.options)) (c.in_ok-exit_statements.ensures.exited names) in
    visited-statements (P a.options) g.T.Lowering.keeps c.requires.can.sound (g.met.T.Traverse.lawful c.args.t.now a.options) x refl refl a b q d f _ _ ts us vs ws
    (subst (λ z. SamePlace z b) e (same-place first)) (same-place c.in_ok-visit_nodes.ensures.kept) (same-place last) n (same-place whole)
    entered visited exited
    (subst (λ z. opens_list g.T.Lowering.keeps z ≡ z) e (outer-first g.T.Lowering.keeps c.args.program.now.id e at_top))
    (outer-last g.T.Lowering.keeps c.args.program.now.id (moment g.S.Additions.pending c.exit_statements.new.ctx) e at_top c.in_ok-enter_statements.ensures.kept c.in_ok-visit_nodes.ensures.kept c.in_ok-exit_statements.ensures.kept)

pub returns-clause-calls : goal.returns-clause-calls
returns-clause-calls g c =
    let x : Ancestor = program_place c.args.program.now.id in
    let e : moment g.S.Additions.pending c.enter_place.new.self ≡ inside_of x (moment g.S.Additions.pending c.args.ctx.now) =
    moment_inside g.S.Additions.pending c.args.ctx.now c.enter_place.new.self x c.in_ok-enter_place.ensures.around c.in_ok-enter_place.ensures.state c.in_ok-enter_place.ensures.ast c.in_ok-enter_place.ensures.options c.in_ok-enter_place.ensures.table c.in_ok-enter_place.ensures.names in
    let at_top : (moment g.S.Additions.pending c.args.ctx.now).around ≡ [] = c.requires.top in
    let first = kept-first g.T.Lowering.keeps c.args.program.now.id e at_top c.in_ok-enter_statements.ensures.kept in
    statements_counted _ _ (first.options ∙ c.in_ok-enter_place.ensures.options) c.in_ok-visit_nodes.ensures.kept.options
    (subst (λ o. Goes g.T.Lowering.suits g.T.Lowering.tally g.T.Lowering.entries o StatementList c.args.t.now c.enter_statements.new.self) c.in_ok-enter_place.ensures.options c.in_ok-enter_statements.ensures.goes) c.in_ok-visit_nodes.ensures.calls c.in_ok-exit_statements.ensures.goes c.in_ok-exit_statements.ensures.ids

pub returns-clause-cost : goal.returns-clause-cost
returns-clause-cost g c =
    omega (arith, c.in_ok-visit_nodes.ensures.cost, c.in_ok-exit_statements.ensures.ids all_hooks)
