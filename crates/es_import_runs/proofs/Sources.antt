-- A program that uses no helper runs the same whether helpers are members of `babelHelpers` or come from modules.
use Rattle.std.proofs.Common.{◌≡◌, ◌∙◌, ℕ, refl, sym, ap, List, [], ◌++◌}
use Rattle.std.proofs.lemmas.Bool.{and_parts}
use Rattle.std.specs.Prelude.{◌&&◌, Bool, true, false, codes, if◌then◌else◌}
use Rattle.es_tree.specs.Fresh.{is_among}
use Rattle.es_tree.specs.Tree.{Tree, node, Fields, ◌then◌, statements}
use Rattle.es_tree.specs.Walks.{all_in_field, all_in_fields, all_in_trees, all_nodes}
use Rattle.es_tree.specs.Words.{Text}
use Rattle.es_tree.specs.declared.ast_type.AstType.TheVariants.{Identifier}
use Rattle.es_tree.specs.declared.options.HelperLoaderMode.TheVariants.{Runtime}
use Rattle.es_runs.specs.Core.{Silent, World, value}
use Rattle.es_runs.specs.Machine.{Move, Result, Value, is_set}
use Rattle.es_runs.specs.Machine.State.{state}
use Rattle.es_runs.specs.Runs.{is_declared, program, scope_of}
use Rattle.es_statement_runs.specs.Helpers.{Supply, constants_in, entry, helper_names, list_of_program, program_list, required_helpers, silent_names}
use Rattle.es_statement_runs.specs.Helpers.Supply.{by_global, by_import, by_require}
use Rattle.es_statement_runs.specs.HelperMembers.{no_helper_member}
use Rattle.es_statement_runs.specs.Kinds.{sense}
use Rattle.es_statement_runs.specs.Names.{declared_at_top, names_of_all, top_in}
use Rattle.es_statement_runs.specs.Places.{placed_at}
use Rattle.es_statement_runs.specs.Programs.{supply_by}
use Rattle.es_statement_runs.specs.Runs.{SameRun, outcome, program_world, run, silent_or, start_cells}
use Rattle.es_statement_runs.specs.Senses.{Sense}
use Rattle.es_statement_runs.proofs.AkinSupplies.{akin-sense, import-akin}
use Rattle.es_helper_calls.specs.Importing.{is_module}
use Rattle.es_import_runs.specs.Laws.{GetsNone, LawImportedProgram, UsesNone, no_helper_text}
use Rattle.es_import_runs.proofs.Constants.{none_listed}
use Rattle.es_import_runs.proofs.Programs.{ExcludesNone, law_importing_program_proof}
use Rattle.es_import_runs.proofs.RequiredNames.{required_none}
use Rattle.es_import_runs.proofs.RequiringSupplies.{required_sense}

pub none_named : (in_module : Bool) (m : Text) → ExcludesNone (supply_by Runtime m in_module) []
none_named true m (node Identifier l fs) = refl
none_named true m _ = refl
none_named false m (node Identifier l fs) = refl
none_named false m _ = refl

-- the list of a program
list_texts : (m : Text) (fs : Fields) → all_in_fields (no_helper_text m) fs ≡ true → all_in_trees (no_helper_text m) (list_of_program fs) ≡ true
list_texts m (f then (statements ts then fs)) h = (and_parts (all_in_trees (no_helper_text m) ts) (all_in_fields (no_helper_text m) fs) (and_parts (all_in_field (no_helper_text m) f) (all_in_trees (no_helper_text m) ts && all_in_fields (no_helper_text m) fs) h).1).0
list_texts m _ h = refl

program_texts : (m : Text) (p : Tree) → all_nodes (no_helper_text m) p ≡ true → all_in_trees (no_helper_text m) (program_list p) ≡ true
program_texts m (node k l fs) h = list_texts m fs (and_parts (no_helper_text m k l fs) (all_in_fields (no_helper_text m) fs) h).1

-- no name stands for a helper
pub gets_none : (in_module : Bool) (m : Text) (p : Tree) → GetsNone in_module m p → helper_names (supply_by Runtime m in_module) p ≡ []
gets_none true m p h = h
gets_none false m p h = at (is_among (names_of_all (declared_at_top p)) (codes "require"))
  where
    at : (b : Bool) → (if b then [] else required_helpers m p (program_list p)) ≡ []
    at true = refl
    at false = required_none m p (program_list p) (program_texts m p h)

module _ (p : Tree) where
  -- the world in which these names stand for something
  abbrev world_with : Value → List (Text × Silent) → World
  world_with this es = record (program_world by_global this p) { scope = λ y. silent_or (entry es y) (scope_of (declared_at_top p) y) }

  abbrev run_with : Supply → List (Text × Silent) → ℕ → Value → List Move → Result Value
  run_with u es n this moves = value (world_with this es) (sense (placed_at u (world_with this es) [] []) p).core (state (start_cells n (declared_at_top p)) moves [])

  silents : (u : Supply) → ExcludesNone u [] → helper_names u p ≡ [] → helper_names u p ++ constants_in u (helper_names u p) p (program_list p) ≡ []
  silents u none e = (λ i. e i ++ constants_in u (e i) p (program_list p)) ∙ none_listed u [] none p (program_list p)

  module _ (m : Text) (global : all_nodes no_helper_member p ≡ true) (silent : silent_names by_global p ≡ []) where
    abbrev SameUnder : Supply → Type 0
    SameUnder u = (n : ℕ) (this : Value) (moves : List Move) → run u n p this moves ≡ run by_global n p this moves

    -- a supply by which no name stands for anything, and by which the program means the same
    same_under : (u : Supply) → silent_names u p ≡ [] → ((w : World) → sense (placed_at u w [] []) p ≡ sense (placed_at by_global w [] []) p) → SameUnder u
    same_under u none same n this moves =
        ap (λ (es : List (Text × Silent)). run_with u es n this moves) none ∙ ap (λ (e : Sense). value (world_with this []) e.core (state (start_cells n (declared_at_top p)) moves [])) (same (world_with this [])) ∙
        sym (ap (λ (es : List (Text × Silent)). run_with by_global es n this moves) silent)

    imported_same : (w : World) → sense (placed_at (by_import m) w [] []) p ≡ sense (placed_at by_global w [] []) p
    imported_same w = sym (akin-sense by_global (by_import m) (import-akin m) p global w [] [])

    pub same_runs : (in_module : Bool) → GetsNone in_module m p → SameUnder (supply_by Runtime m in_module)
    same_runs true h = same_under (by_import m) (silents (by_import m) (none_named true m) (gets_none true m p h)) imported_same
    same_runs false h = same_under (by_require m) (silents (by_require m) (none_named false m) (gets_none false m p h)) (λ w. sym (required_sense m p h w [] []) ∙ imported_same w)

pub supplies_same : (in_module : Bool) (m : Text) (p : Tree) → UsesNone in_module m p → (n : ℕ) (this : Value) (moves : List Move) → run (supply_by Runtime m in_module) n p this moves ≡ run by_global n p this moves
supplies_same in_module m p h = same_runs p m h.global h.silent in_module h.helpers

-- ONE AFTER THE OTHER
both_runs : (first second : Text → Bool) → ((y : Text) → first y ≡ true → second y ≡ true) → {r q t : Result Value} → SameRun first r q → SameRun second q t → SameRun first r t
both_runs first second more {r = r} {q = q} a b = record {
  outcomes = b.outcomes ∙ a.outcomes;
  questions = b.questions ∙ a.questions;
  final_cells = λ x e i. let c = a.final_cells x e i in b.final_cells x (more x e) (ap is_set c ∙ i) ∙ c;
}

pub law_imported_program_proof : LawImportedProgram
law_imported_program_proof m no_all p l ds body b calls none more before_it n this moves assumed t ms in_sight =
    let u : Supply = supply_by Runtime m (is_module (program l ds body)) in
    let same : run u n p this moves ≡ run by_global n p this moves = supplies_same (is_module (program l ds body)) m p none n this moves in
    let first = before_it n this moves assumed t ms (λ e. in_sight (ap outcome same ∙ e)) in
    rw same (both_runs (is_declared (declared_at_top p)) (is_declared (top_in body)) more first (law_importing_program_proof m l ds body b calls n this moves (λ e. in_sight (ap outcome same ∙ sym first.outcomes ∙ e))))
