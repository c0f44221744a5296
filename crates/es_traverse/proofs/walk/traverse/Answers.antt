use Rattle.std.proofs.Common.{◌∙◌, ◌+◌, sym, ap, subst, arith, length}
use Rattle.std.specs.Prelude.{None}
use Rattle.es_statements.specs.ProgramPlain.{plain_program}
use Rattle.es_visit.specs.Counts.{all_hooks}
use Rattle.es_visit.proofs.Calls.{whole_counted}
use Rattle.es_changes.specs.Changes.{heft}
use Rattle.es_changes.specs.Moments.{Moment}
use Rattle.es_traverse.specs.ContextMoments.{moment}
use Rattle.es_traverse.specs.Laws.{CanVisit, IsReady, KeptVisited}
use Rattle.es_traverse.specs.Loads.{load}
use Rattle.es_traverse.proofs.Kept.{kept-then, ready-then}
use Rattle.es_traverse.proofs.Programs.{left-empty, visited-whole}
use Rattle.es_traverse.proofs.walk.traverse.Goals as goal

pub visit_program-requires : goal.visit_program-requires
visit_program-requires g c =
    let same = c.in_ok-enter_program.ensures.same in
    record {
      can = subst (λ (q : Moment). CanVisit g.S.Additions.pending g.T.Lowering.keeps (g.T.Lowering.profile q.options)) (sym same) c.requires.can;
      ready = record { suited = subst (λ (q : Moment). g.T.Lowering.suits c.enter_program.new.self q.options) (sym same) c.in_ok-enter_program.ensures.goes.suits_still; room = omega (arith, c.requires.ready.room, ap heft same); pair = omega (arith, c.requires.ready.pair, ap (λ (q : Moment). length q.lists) same) };
      top = ap (λ (q : Moment). q.around) same ∙ c.requires.top;
    }

pub exit_program-requires : goal.exit_program-requires
exit_program-requires g c =
    let same = c.in_ok-enter_program.ensures.same in
    let ready : IsReady g.T.Lowering.suits c.enter_program.new.self (moment g.S.Additions.pending c.enter_program.new.ctx) (load (plain_program c.args.program.now) + 0) = record { suited = subst (λ (q : Moment). g.T.Lowering.suits c.enter_program.new.self q.options) (sym same) c.in_ok-enter_program.ensures.goes.suits_still; room = omega (arith, c.requires.ready.room, ap heft same); pair = omega (arith, c.requires.ready.pair, ap (λ (q : Moment). length q.lists) same) } in
    record { ready = ready-then c.enter_program.new.self c.visit_program.new.t c.in_ok-visit_program.ensures.kept c.in_ok-visit_program.ensures.calls.suits_still ready }

pub returns-clause-kept : goal.returns-clause-kept
returns-clause-kept g c =
    let k : KeptVisited 0 (moment g.S.Additions.pending c.args.ctx.now) (plain_program c.args.program.now) (moment g.S.Additions.pending c.visit_program.new.ctx) (plain_program c.visit_program.new.program) =
    subst (λ q. KeptVisited 0 q (plain_program c.args.program.now) (moment g.S.Additions.pending c.visit_program.new.ctx) (plain_program c.visit_program.new.program)) c.in_ok-enter_program.ensures.same c.in_ok-visit_program.ensures.kept in
    kept-then k c.in_ok-exit_program.ensures.kept

pub returns-clause-visited : goal.returns-clause-visited
returns-clause-visited g c = λ names.
    visited-whole g.T.Lowering.profile g.T.Lowering.ending g.T.Lowering.keeps (λ o. g.met.T.Traverse.lawful c.args.t.now o) _ _ _ _ _ _ _ c.in_ok-enter_program.ensures.same c.in_ok-visit_program.ensures.kept.options (c.in_ok-visit_program.ensures.visited names) (c.in_ok-exit_program.ensures.exited names)

pub returns-clause-finished : goal.returns-clause-finished
returns-clause-finished g c = left-empty _ _ g.T.Lowering.keeps (c.requires.can.pairs c.exit_program.new.ctx.state) (c.in_ok-exit_program.ensures.exited (λ s x. None))

pub returns-clause-calls : goal.returns-clause-calls
returns-clause-calls g c =
    whole_counted c.visit_program.new.program c.exit_program.new.program (ap (λ (q : Moment). q.options) c.in_ok-enter_program.ensures.same) c.in_ok-visit_program.ensures.kept.options c.in_ok-enter_program.ensures.goes c.in_ok-visit_program.ensures.calls c.in_ok-exit_program.ensures.goes c.in_ok-exit_program.ensures.ids

pub returns-clause-cost : goal.returns-clause-cost
returns-clause-cost g c =
    omega (arith, c.in_ok-visit_program.ensures.cost, c.in_ok-exit_program.ensures.ids.all all_hooks)
