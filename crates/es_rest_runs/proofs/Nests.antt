-- A step by which a pattern in a property is declared keeps the runs of a program.
use Rattle.std.proofs.Common.{◌≡◌, subst, [], ◌∷◌}
use Rattle.std.specs.Prelude.{Bool, true, false}
use Rattle.es_tree.specs.Tree.{Tree, kind_of}
use Rattle.es_tree.specs.Words.{Text}
use Rattle.es_runs.specs.Runs.{none_hidden}
use Rattle.es_semantic.specs.RolesOf.{reads}
use Rattle.es_resolution.specs.Resolved.{nowhere}
use Rattle.es_steps.specs.Laws.{IsWellBound, nothing_beside}
use Rattle.es_steps.specs.Open.{Open, finished, opened}
use Rattle.es_steps.specs.Steps.{Ledger, Step, Whole, the_program}
use Rattle.es_steps.proofs.Opened.{finished-opened}
use Rattle.es_steps.proofs.Taken.{whole_in}
use Rattle.es_statement_runs.specs.Helpers.{Supply, silent_names}
use Rattle.es_statement_runs.specs.Programs.{IsStatementProgram}
use Rattle.es_statement_runs.specs.Runs.{RunAlike}
use Rattle.es_statement_steps.proofs.Stands.{is_program}
use Rattle.es_rest_runs.specs.Changing.{Changed}
use Rattle.es_rest_runs.specs.Laws.{KeepsSources, LawNests, NestsRow}
use Rattle.es_rest_runs.specs.Quiet.{IsQuiet}
use Rattle.es_rest_runs.proofs.GrownNames.{Apt}
use Rattle.es_rest_runs.proofs.GrownPrograms.{ProgramChanged, program_changed}
use Rattle.es_rest_runs.proofs.NestedPlaces.{NestedAt, SomeNested, are_new, grow, nested_place, nests-rule}
use Rattle.es_rest_runs.proofs.QuietSteps.{Before, Left, opened_quiet, step_changed}
use Rattle.es_rest_runs.proofs.SeenPlaces.{Known}
use Rattle.es_rest_runs.proofs.SeenPrograms.{New, SeenAlike, declared_still, program_apt, program_known, seen_run}
use Rattle.es_rest_runs.proofs.Stores.{Picked, kind_program, pick, said_of}

module _ (u : Supply) (w : Whole) (v : Bool) (x : Text) (new : New w (x ∷ [])) (p q : Tree) (apt : Apt p) (known : Known w reads nowhere p) (changed : ProgramChanged (NestedAt w (v, x)) p q) (silent : silent_names u p ≡ []) (silent_after : silent_names u q ≡ []) where
  pub nests_run : RunAlike u false p q
  nests_run = seen_run u w v (x ∷ []) none_hidden (NestedAt w (v, x)) (grow w (v, x)) new (λ l ds body after fresh none. nested_place u w (v, x) new fresh none) p q apt known changed (λ l ds body e h. h) (λ y e. absurd (cc e)) silent silent_after

module _ (u : Supply) (s s' : Ledger) (p : Tree) (y : Open) (apt : Apt p) (known : Known (whole_in s) reads nowhere p) (silent : silent_names u p ≡ []) (left : Left s s' (IsQuiet y) (Changed (SomeNested (whole_in s)) p (finished y))) where
  module _ (v : Bool) (x_ : Text) where
    abbrev At : Tree → Tree → Type 0
    At = NestedAt (whole_in s) (v, x_)

    alike_of : Changed At p (finished y) → ProgramChanged At p (finished y) → SeenAlike u (SomeNested (whole_in s)) s s' p y
    alike_of place changed = record {
      runs = λ after. nests_run u (whole_in s) v x_ (said_of At (New (whole_in s) (x_ ∷ [])) (λ a b h. are_new h) place) p (finished y) apt known changed silent after;
      declared = declared_still u (whole_in s) v (x_ ∷ []) none_hidden At (grow (whole_in s) (v, x_)) changed;
      left = left;
    }

  alike_where : is_program (kind_of p) ≡ true → Picked (Bool × Text) (λ i. Changed (NestedAt (whole_in s) i) p (finished y)) → SeenAlike u (SomeNested (whole_in s)) s s' p y
  alike_where is place = alike_of place.index.0 place.index.1 place.holds (program_changed place.index.0 (place.index.1 ∷ []) (NestedAt (whole_in s) place.index) (grow (whole_in s) place.index) place.holds apt is)

pub nested_alike : (u : Supply) (s s' : Ledger) (x y : Open) (p : Tree) → finished x ≡ p → IsStatementProgram p → IsWellBound (whole_in s) p → KeepsSources (whole_in s) p → Step NestsRow the_program s x s' y → IsQuiet x → silent_names u p ≡ [] →
    SeenAlike u (SomeNested (whole_in s)) s s' p y
nested_alike u s s' x y p same class bound sources step quiet silent =
    let left = subst (λ (t : Tree). Left s s' (IsQuiet y) (Changed (SomeNested (whole_in s)) t (finished y))) {x = finished x} same (step_changed NestsRow (Before SomeNested) nests-rule step quiet) in
    alike_where u s s' p y (program_apt p class) (program_known (whole_in s) p class bound sources) silent left (kind_program p class.form) (pick (Bool × Text) (NestedAt (whole_in s)) left.changed)

pub law_nests_proof : LawNests
law_nests_proof u w s p q class bound sources step silent silent_after = (nested_alike u (nothing_beside w) s (opened p) q p (finished-opened p) class bound sources step (opened_quiet p) silent).runs silent_after
