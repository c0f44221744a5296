-- One step of a rule that takes fresh names keeps the run, at any place of any program.
use Rattle.std.proofs.Common.{◌≡◌, refl, sym, List, [], ◌∙◌}
use Rattle.std.specs.Prelude.{Bool, true, false}
use Rattle.es_tree.specs.Words.{Text}
use Rattle.es_tree.specs.Tree.{Tree}
use Rattle.es_runs.specs.Machine.{Value, Result, Move}
use Rattle.es_runs.specs.Machine.State.{state}
use Rattle.es_runs.specs.Core.{World, value, meaning}
use Rattle.es_runs.specs.Core.Binding.{changeable}
use Rattle.es_runs.specs.Alike.{set_cells, Agree, Alike, Equal, SameWorld, Need, Like, all_of_it, touches, bad_names}
use Rattle.es_runs.specs.Alike.Agree.{agree}
use Rattle.es_tree.specs.Scopes.{Declared}
use Rattle.es_runs.specs.Runs.{cells_of, world_of, run_where, outcome, SameRun, none_hidden}
use Rattle.es_runs.specs.Runs.Outcome.{called_uncallable}
use Rattle.es_runs.specs.Rules.{OnePlace}
use Rattle.es_runs.proofs.CoreWorlds.{core_world}
use Rattle.es_runs.proofs.Basic.{value_alike}
use Rattle.es_runs.proofs.Everywhere.{near_like}
use Rattle.es_runs.proofs.MathWords.{NoMathWord}
use Rattle.es_runs.proofs.OnePlace.{Unnamed, near_place}
use Rattle.es_runs.proofs.Laws.{same_run}
use Rattle.es_runs.proofs.Written.{all_pending, one_of, scope_of-all_pending, cells_of-all_pending}

-- MORE CELLS

module _ (loose : Bool) (xs : List Text) (ds : List Declared) (this : Value) where
  abbrev pub before : World
  before = world_of loose this ds

  abbrev pub after : World
  after = world_of loose this (all_pending xs ds)

  pub names_more : SameWorld (one_of xs) before after
  names_more = record { scope = λ y e. rw (scope_of-all_pending xs ds y, e) refl; this = refl; counts = refl }

  pub are_vars : (y : Text) → one_of xs y ≡ true → after.scope y ≡ changeable
  are_vars y e = rw (scope_of-all_pending xs ds y, e) refl

  cells_more : (moves : List Move) → Agree (set_cells (one_of xs)) (state (cells_of ds) moves []) (state (cells_of (all_pending xs ds)) moves [])
  cells_more moves = agree (λ y e. rw (cells_of-all_pending xs ds y, e) refl) (λ y e. rw (cells_of-all_pending xs ds y, e) refl) (λ y e. cc)

  module _ (R : Need → Tree → Tree → Type 0) (base : (n : Need) (a b : Tree) → R n a b → touches (bad_names (one_of xs) none_hidden) n a ≡ false → Like (set_cells (one_of xs)) before after n (meaning before a) (meaning after b)) (words : (n : Need) (a b : Tree) → R n a b → NoMathWord (one_of xs) (meaning before a).form) where
    place_alike : (p q : Tree) → touches (bad_names (one_of xs) none_hidden) all_of_it p ≡ false → OnePlace R all_of_it p q → Alike (set_cells (one_of xs)) Equal (value before (meaning before p)) (value after (meaning after q))
    place_alike p q h r =
        value_alike (set_cells (one_of xs)) before after names_more (meaning before p) (meaning after q)
        (near_like (set_cells (one_of xs)) before after names_more (core_world _ _ _) (core_world _ _ _) (Unnamed (bad_names (one_of xs) none_hidden) R) (λ n a b k. base n a b k.0 k.1) (λ n a b k. words n a b k.0) (near_place (bad_names (one_of xs) none_hidden) R r h)).evaluation

    -- from a program in which none of the names stands
    pub place_run : (counts : Text → Bool) → ((y : Text) → counts y ≡ true → one_of xs y ≡ false) → (p q : Tree) → touches (bad_names (one_of xs) none_hidden) all_of_it p ≡ false → OnePlace R all_of_it p q → (moves : List Move) → (outcome (run_where loose ds p this moves) ≡ called_uncallable → ⊥) →
        SameRun counts (run_where loose ds p this moves) (run_where loose (all_pending xs ds) q this moves)
    place_run counts ok p q h r moves callable = same_run (set_cells (one_of xs)) refl counts ok callable (place_alike p q h r _ _ (cells_more moves))

-- MANY STEPS

pub same_run_trans : (counts : Text → Bool) (a b c : Result Value) → SameRun counts a b → SameRun counts b c → SameRun counts a c
same_run_trans counts a b c h g = record { outcomes = g.outcomes ∙ h.outcomes; questions = g.questions ∙ h.questions; final_cells = λ x e. g.final_cells x e ∙ h.final_cells x e }

pub still_callable : (counts : Text → Bool) (a b : Result Value) → SameRun counts a b → (outcome a ≡ called_uncallable → ⊥) → outcome b ≡ called_uncallable → ⊥
still_callable counts a b h callable e = callable (sym h.outcomes ∙ e)
