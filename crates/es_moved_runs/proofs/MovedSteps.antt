-- A step by which a pattern moves, of whatever rule that moves one at such a place, keeps the runs of a program.
use Rattle.std.proofs.Common.{◌≡◌, sym, subst, []}
use Rattle.std.specs.Prelude.{true, false}
use Rattle.es_tree.specs.Tree.{Tree, kind_of}
use Rattle.es_tree.specs.Walks.{all_nodes}
use Rattle.es_tree.specs.Words.{Text}
use Rattle.es_runs.specs.Runs.{is_declared}
use Rattle.es_semantic.specs.RolesOf.{reads}
use Rattle.es_resolution.specs.Named.{Named}
use Rattle.es_valid_steps.proofs.Visits.{law_among_proof, law_places_proof}
use Rattle.es_steps.specs.Laws.{nothing_beside}
use Rattle.es_steps.specs.Open.{Open, finished, opened}
use Rattle.es_steps.specs.Steps.{Ledger, Site, Spot, Step, Whole, the_program}
use Rattle.es_steps.proofs.Opened.{finished-opened}
use Rattle.es_steps.proofs.Taken.{whole_in}
use Rattle.es_statement_runs.specs.Helpers.{Supply, silent_names}
use Rattle.es_statement_runs.specs.Names.{declared_at_top, var_names}
use Rattle.es_statement_runs.specs.Programs.{IsStatementProgram, names_no_cell}
use Rattle.es_statement_runs.specs.Runs.{RunAlike}
use Rattle.es_statement_steps.proofs.StandingPrograms.{program_stands}
use Rattle.es_statement_steps.proofs.Stands.{is_program}
use Rattle.es_rest_runs.specs.Changing.{Changed}
use Rattle.es_rest_runs.specs.Quiet.{IsQuiet}
use Rattle.es_rest_runs.proofs.GrownNames.{Apt}
use Rattle.es_rest_runs.proofs.QuietSteps.{Before, Left, PlainRule, opened_quiet, step_changed}
use Rattle.es_rest_runs.proofs.Stores.{IsNew, Picked, kind_program, pick, said_of}
use Rattle.es_rest_runs.proofs.TestsHold.{program_tested}
use Rattle.es_moved_runs.proofs.TurnedNames.{Turned}
use Rattle.es_moved_runs.proofs.TurnedPlaces.{program_turned}
use Rattle.es_moved_runs.proofs.TurnedRuns.{MeansSame, turned_declared, turned_run}

-- What is asked of places that change, by what is known of the whole and the fresh name: that the name is new, that they are clauses or loops that declare as
-- much by `var`, and that both sides mean the same.
pub record MovesSo (u : Supply) (B : Whole → Text → Tree → Tree → Type 0) : Type 0 where
  pub new : (w : Whole) (x : Text) (a b : Tree) → B w x a b → IsNew w x
  pub turn : (w : Whole) (x : Text) (a b : Tree) → B w x a b → Turned a b
  pub vars : (w : Whole) (x : Text) (a b : Tree) → B w x a b → Apt a → var_names b ≡ var_names a
  pub means : (w : Whole) (x : Text) → IsNew w x → MeansSame u x (B w x)

abbrev pub SomeMoved : (Whole → Text → Tree → Tree → Type 0) → Whole → Tree → Tree → Type 0
SomeMoved B w a b = Picked Text (λ x. B w x a b)

module _ (u : Supply) (B : Whole → Text → Tree → Tree → Type 0) (so : MovesSo u B) where
  -- of an open program with nothing pending
  pub record MovedAlike (s s' : Ledger) (p : Tree) (y : Open) : Type 0 where
    pub runs : silent_names u (finished y) ≡ [] → RunAlike u false p (finished y)
    pub declared : silent_names u (finished y) ≡ [] → (z : Text) → is_declared (declared_at_top p) z ≡ true → is_declared (declared_at_top (finished y)) z ≡ true
    pub left : Left s s' (IsQuiet y) (Changed (SomeMoved B (whole_in s)) p (finished y))

  module _ (s s' : Ledger) (p : Tree) (y : Open) (apt : Apt p) (cells : all_nodes names_no_cell p ≡ true) (named : Named (whole_in s).in_use (whole_in s).free_symbol reads p) (silent : silent_names u p ≡ []) (program : is_program (kind_of p) ≡ true)
      (left : Left s s' (IsQuiet y) (Changed (SomeMoved B (whole_in s)) p (finished y))) where
    alike_at : (x : Text) → Changed (B (whole_in s) x) p (finished y) → MovedAlike s s' p y
    alike_at x place =
        let w = whole_in s in
        let new : IsNew w x = said_of (B w x) (IsNew w x) (so.new w x) place in
        let changed = program_turned (B w x) (so.turn w x) place apt program in
        record {
          runs = λ after. turned_run u w x new (B w x) (so.turn w x) (so.vars w x) (so.means w x new) p (finished y) apt cells named changed silent after;
          declared = λ after. turned_declared u w x new (B w x) (so.turn w x) (so.vars w x) (so.means w x new) p (finished y) apt cells named changed silent after;
          left = left;
        }

    alike_where : Picked Text (λ x. Changed (B (whole_in s) x) p (finished y)) → MovedAlike s s' p y
    alike_where place = alike_at place.index place.holds

  pub apt_program : (p : Tree) → IsStatementProgram p → Apt p
  apt_program p class =
      let keeps = (law_places_proof p).to_places (law_among_proof p class.rules) in
      (program_stands p class.form class.without_functions keeps, program_tested p class.form class.without_functions keeps)

  module _ (Q : Site → Ledger → Spot → Ledger → Spot → Type 0) (rule : PlainRule Q (Before (SomeMoved B))) where
    pub moved_alike : (s s' : Ledger) (x y : Open) → IsStatementProgram (finished x) → Named (whole_in s).in_use (whole_in s).free_symbol reads (finished x) → Step Q the_program s x s' y → IsQuiet x → silent_names u (finished x) ≡ [] → MovedAlike s s' (finished x) y
    moved_alike s s' x y class named step quiet silent =
        let left = step_changed Q (Before (SomeMoved B)) rule step quiet in
        alike_where s s' (finished x) y (apt_program (finished x) class) class.names named silent (kind_program (finished x) class.form) left (pick Text (B (whole_in s)) left.changed)

    one_of : (w : Whole) (s : Ledger) (t : Tree) (p q : Open) → finished p ≡ t → IsStatementProgram t → Named w.in_use w.free_symbol reads t → Step Q the_program (nothing_beside w) p s q → IsQuiet p → silent_names u t ≡ [] → silent_names u (finished q) ≡ [] → RunAlike u false t (finished q)
    one_of w s t p q same class named step quiet silent after =
        subst (λ (t : Tree). RunAlike u false t (finished q)) {x = finished p} same
        ((moved_alike (nothing_beside w) s p q (subst (λ (t : Tree). IsStatementProgram t) {x = t} (sym same) class) (subst (λ (t : Tree). Named w.in_use w.free_symbol reads t) {x = t} (sym same) named) step quiet (subst (λ (t : Tree). silent_names u t ≡ []) {x = t} (sym same) silent)).runs after)

    pub one_step : (w : Whole) (s : Ledger) (p : Tree) (q : Open) → IsStatementProgram p → Named w.in_use w.free_symbol reads p → Step Q the_program (nothing_beside w) (opened p) s q → silent_names u p ≡ [] → silent_names u (finished q) ≡ [] → RunAlike u false p (finished q)
    one_step w s p q class named step silent after = one_of w s p (opened p) q (finished-opened p) class named step (opened_quiet p) silent after
