-- A program whose patterns move by the rows runs as what it becomes by moving.
use Rattle.std.proofs.Common.{◌≡◌, refl, sym, subst, ◌∙◌, ap, List}
use Rattle.std.specs.Prelude.{false, true}
use Rattle.es_tree.specs.Tree.{Tree}
use Rattle.es_tree.specs.Walks.{all_nodes}
use Rattle.es_reached.proofs.Results.{source-well-bound}
use Rattle.es_resolution.specs.Laws.{source}
use Rattle.es_steps.specs.CoreBridge.{first_whole}
use Rattle.es_steps.specs.Laws.{IsWellBound, nothing_beside}
use Rattle.es_steps.specs.Open.{Open, finished, opened}
use Rattle.es_steps.specs.Steps.{Ledger, Step, Steps, Whole, the_program}
use Rattle.es_steps.specs.Steps.Steps.{goes, stays}
use Rattle.es_steps.proofs.Opened.{finished-opened}
use Rattle.es_steps.proofs.Taken.{whole_in}
use Rattle.es_pattern_moves.specs.MoveRows.{MoveRow}
use Rattle.es_pattern_moves.proofs.MovedLaws.{law_moved_steps_proof}
use Rattle.es_statement_runs.specs.Helpers.Supply.{by_global}
use Rattle.es_statement_runs.specs.Programs.{IsStatementProgram, uses_no_helper}
use Rattle.es_statement_steps.proofs.BareRuns.{alike-seen}
use Rattle.es_statement_steps.proofs.ReachedRuns.{source-bare}
use Rattle.es_rest_runs.proofs.QuietSteps.{Before, step_changed}
use Rattle.es_moved_runs.specs.Laws.{LawMovedRuns, MovesOn, MovesRow, moves_so}
use Rattle.es_moved_runs.proofs.MovedKept.{EitherMoved}
use Rattle.es_moved_runs.proofs.MovedSteps.{SomeMoved, apt_program}
use Rattle.es_moved_runs.proofs.MovesInRow.{Now, either-moves, first, moves-rule, onward}
use Rattle.es_moved_runs.proofs.SoSeen.{class_seen, helpers_seen, so_seen}
use Rattle.es_moved_runs.proofs.SoStill.{so_kept, step_so}
use Rattle.es_tree.specs.Bare.{bare}
use Rattle.es_tree.specs.Scopes.{Declared}
use Rattle.es_tree.specs.Words.{Text}
use Rattle.es_runs.specs.Runs.{is_declared}
use Rattle.es_statement_runs.specs.Names.{declared_at_top}
use Rattle.es_statement_steps.proofs.BareScopes.{declared-bare}

module _ (p : Tree) (w : Whole) (class : IsStatementProgram p) (bound : IsWellBound w p) where
  -- and whose patterns move so
  record NowSo (s : Ledger) (t : Open) : Type 0 where
    now : Now p w class bound s t
    so : all_nodes moves_so (finished t) ≡ true

  so_onward : {s s' : Ledger} {t u : Open} → NowSo s t → Step MoveRow the_program s t s' u → NowSo s' u
  so_onward {s = s} {t = t} h step =
      let row = step_so step h.now.quiet h.so in
      let left = step_changed MovesRow (Before (SomeMoved EitherMoved)) moves-rule row h.now.quiet in
      record { now = onward p w class bound h.now row; so = so_kept by_global (either-moves by_global) (whole_in s) left.changed (apt_program by_global EitherMoved (either-moves by_global) (finished t) h.now.good.class) h.so }

  so_in_row : {s s' : Ledger} {t u : Open} → NowSo s t → Steps (Step MoveRow the_program) s t s' u → NowSo s' u
  so_in_row h stays = h
  so_in_row h (goes step rest) = so_in_row (so_onward h step) rest

  moved_on : uses_no_helper by_global p ≡ true → all_nodes moves_so p ≡ true → (w' : Whole) (r : Tree) → Steps (Step MoveRow the_program) (nothing_beside w) (opened p) (nothing_beside w') (opened r) → MovesOn p w' r × ((z : Text) → is_declared (declared_at_top p) z ≡ true → is_declared (declared_at_top r) z ≡ true)
  moved_on none so w' r steps =
      let end = (so_in_row (record { now = first p w class bound none; so = subst (λ t. all_nodes moves_so t ≡ true) (sym (finished-opened p)) so }) steps).now in
      subst (λ t. MovesOn p w' t × ((z : Text) → is_declared (declared_at_top p) z ≡ true → is_declared (declared_at_top t) z ≡ true)) (finished-opened r) (end.good, end.declared)

same_top : (t q : Tree) → bare t ≡ bare q → declared_at_top q ≡ declared_at_top t
same_top t q e = sym (declared-bare q) ∙ ap declared_at_top (sym e) ∙ declared-bare t

pub law_moved_runs_proof : LawMovedRuns
law_moved_runs_proof p q names class none so to =
    let moved = law_moved_steps_proof p q names class.form class.rules to in
    let same = source-bare p in
    let on = moved_on (source p) (first_whole p) (class_seen p (source p) same class) (source-well-bound p class.form class.rules) (helpers_seen p (source p) same none) (so_seen p (source p) same so) moved.1 moved.0 moved.2 in
    let good = on.0 in
    record {
      runs = alike-seen by_global refl false (source p) moved.0 p q (sym same) moved.4 good.runs;
      declared = λ z e. ap (λ (ds : List Declared). is_declared ds z) (same_top moved.0 q moved.4) ∙ on.1 z (ap (λ (ds : List Declared). is_declared ds z) (same_top p (source p) same) ∙ e);
      class = class_seen moved.0 q moved.4 good.class;
      helpers = helpers_seen moved.0 q moved.4 good.helpers;
    }
