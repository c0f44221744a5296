-- A step by which a rest is taken keeps the runs of a program.
use Rattle.std.proofs.Common.{◌≡◌, refl, subst, List, []}
use Rattle.std.proofs.lemmas.Bool.{and_parts}
use Rattle.std.proofs.lemmas.Slice.Eq.{bytes_eq-Decides}
use Rattle.std.specs.Prelude.{Bool, true, false, ◌&&◌}
use Rattle.es_tree.specs.Tree.{Tree, Label, Trees, kind_of}
use Rattle.es_tree.specs.Words.{Text}
use Rattle.es_runs.specs.Alike.{Level, bad_names}
use Rattle.es_runs.specs.Runs.{is_declared, none_hidden, only, program}
use Rattle.es_semantic.specs.RolesOf.{reads}
use Rattle.es_resolution.specs.Declarations.{Bound}
use Rattle.es_resolution.specs.Resolved.{nowhere}
use Rattle.es_steps.specs.Laws.{IsWellBound, nothing_beside}
use Rattle.es_steps.specs.Open.{Open, finished, opened}
use Rattle.es_steps.specs.Steps.{Ledger, Step, Whole, the_program}
use Rattle.es_steps.proofs.Opened.{finished-opened}
use Rattle.es_steps.proofs.Taken.{whole_in}
use Rattle.es_statement_runs.specs.Helpers.{silent_names}
use Rattle.es_statement_runs.specs.Helpers.Supply.{by_global}
use Rattle.es_statement_runs.specs.Laws.{among_names, body_needs}
use Rattle.es_statement_runs.specs.Names.{declared_at_top}
use Rattle.es_statement_runs.specs.Places.{avoids, avoids_trees, value_taken}
use Rattle.es_statement_runs.specs.Programs.{IsStatementProgram}
use Rattle.es_statement_runs.specs.Runs.{RunAlike}
use Rattle.es_statement_runs.proofs.Spreads.{helpers_}
use Rattle.es_statement_steps.proofs.MadeNames.{made_among}
use Rattle.es_statement_steps.proofs.Stands.{is_program}
use Rattle.es_split_runs.specs.Laws.{bad_fresh, bad_helped}
use Rattle.es_rest_runs.specs.Changing.{Changed}
use Rattle.es_rest_runs.specs.Laws.{KeepsSources, LawTakes, LeavesHelpers, TakesRow}
use Rattle.es_rest_runs.specs.Quiet.{IsQuiet}
use Rattle.es_rest_runs.proofs.GrownNames.{Apt}
use Rattle.es_rest_runs.proofs.GrownPrograms.{ProgramChanged, program_changed}
use Rattle.es_rest_runs.proofs.QuietSteps.{Before, Left, opened_quiet, step_changed}
use Rattle.es_rest_runs.proofs.SeenPlaces.{Known}
use Rattle.es_rest_runs.proofs.SeenPrograms.{New, SeenAlike, declared_still, program_apt, program_known, seen_run}
use Rattle.es_rest_runs.proofs.SparedNames.{trees_both}
use Rattle.es_rest_runs.proofs.Stores.{Picked, kind_program, pick, said_of}
use Rattle.es_rest_runs.proofs.TakenGroups.{keys_made, keys_new, texts_of}
use Rattle.es_rest_runs.proofs.TakenNames.{SomeTaken, TakenAt, grow, takes-rule}
use Rattle.es_rest_runs.proofs.TakenNames.TakenAt.{taken_at}
use Rattle.es_rest_runs.proofs.TakenPlaces.{taken_place}
use Rattle.es_rest_runs.proofs.KeyLeaves.{property_leaves}

-- a new list of names, which the place says
are_new : {w : Whole} {v : Bool} {ns : List Bound} {a b : Tree} → TakenAt w (v, ns) a b → New w (texts_of ns)
are_new (taken_at m l lp lr ls lt a ps c word plain kept keys) = record { fresh = keys_new keys; made = keys_made keys }

abbrev bad_helpers : Level → Text → Bool
bad_helpers = bad_names none_hidden (only helpers_)

module _ (w : Whole) (v : Bool) (ns : List Bound) (new : New w (texts_of ns)) (p q : Tree) (apt : Apt p) (known : Known w reads nowhere p) (helpers : LeavesHelpers p) (changed : ProgramChanged (TakenAt w (v, ns)) p q)
    (silent : silent_names by_global p ≡ []) (silent_after : silent_names by_global q ≡ []) where
  abbrev xs : List Text
  xs = texts_of ns

  avoids_more : (l : Label) (ds body : Trees) → p ≡ program l ds body → avoids_trees (bad_fresh xs) body_needs body ≡ true → avoids_trees (bad_helped xs) body_needs body ≡ true
  avoids_more l ds body same h =
      let all : avoids bad_helpers value_taken (program l ds body) ≡ true = subst (λ t. avoids bad_helpers value_taken t ≡ true) {x = p} same helpers.unwritten in
      trees_both (among_names xs) (only helpers_) body_needs body h
      (and_parts (avoids_trees bad_helpers body_needs body) true (and_parts (avoids_trees bad_helpers body_needs ds) (avoids_trees bad_helpers body_needs body && true) all).1).0

  undeclared : (y : Text) → only helpers_ y ≡ true → (among_names xs y ≡ false) × (is_declared (declared_at_top p) y ≡ false)
  undeclared y e = rw ((bytes_eq-Decides y helpers_).0 e) (made_among helpers_ xs refl new.made, helpers.undeclared)

  pub takes_run : RunAlike by_global false p q
  takes_run = seen_run by_global w v xs (only helpers_) (TakenAt w (v, ns)) (grow w (v, ns)) new
      (λ l ds body after fresh none. taken_place w v ns fresh none (λ t plain r z k. property_leaves t plain k.fine k.keys)) p q apt known changed avoids_more undeclared silent silent_after

module _ (s s' : Ledger) (p : Tree) (y : Open) (apt : Apt p) (known : Known (whole_in s) reads nowhere p) (helpers : LeavesHelpers p) (silent : silent_names by_global p ≡ []) (left : Left s s' (IsQuiet y) (Changed (SomeTaken (whole_in s)) p (finished y))) where
  module _ (v : Bool) (ns : List Bound) where
    abbrev At : Tree → Tree → Type 0
    At = TakenAt (whole_in s) (v, ns)

    alike_of : Changed At p (finished y) → ProgramChanged At p (finished y) → SeenAlike by_global (SomeTaken (whole_in s)) s s' p y
    alike_of place changed = record {
      runs = λ after. takes_run (whole_in s) v ns (said_of At (New (whole_in s) (texts_of ns)) (λ a b h. are_new h) place) p (finished y) apt known helpers changed silent after;
      declared = declared_still by_global (whole_in s) v (texts_of ns) (only helpers_) At (grow (whole_in s) (v, ns)) changed;
      left = left;
    }

  alike_where : is_program (kind_of p) ≡ true → Picked (Bool × List Bound) (λ i. Changed (TakenAt (whole_in s) i) p (finished y)) → SeenAlike by_global (SomeTaken (whole_in s)) s s' p y
  alike_where is place = alike_of place.index.0 place.index.1 place.holds (program_changed place.index.0 (texts_of place.index.1) (TakenAt (whole_in s) place.index) (grow (whole_in s) place.index) place.holds apt is)

pub taken_alike : (s s' : Ledger) (x y : Open) (p : Tree) → finished x ≡ p → IsStatementProgram p → IsWellBound (whole_in s) p → KeepsSources (whole_in s) p → LeavesHelpers p → Step TakesRow the_program s x s' y → IsQuiet x → silent_names by_global p ≡ [] →
    SeenAlike by_global (SomeTaken (whole_in s)) s s' p y
taken_alike s s' x y p same class bound sources helpers step quiet silent =
    let left = subst (λ (t : Tree). Left s s' (IsQuiet y) (Changed (SomeTaken (whole_in s)) t (finished y))) {x = finished x} same (step_changed TakesRow (Before SomeTaken) takes-rule step quiet) in
    alike_where s s' p y (program_apt p class) (program_known (whole_in s) p class bound sources) helpers silent left (kind_program p class.form) (pick (Bool × List Bound) (TakenAt (whole_in s)) left.changed)

pub law_takes_proof : LawTakes
law_takes_proof w s p q class bound sources helpers step silent silent_after = (taken_alike (nothing_beside w) s (opened p) q p (finished-opened p) class bound sources helpers step (opened_quiet p) silent).runs silent_after
