-- What is known of an open core program, and that a step of the rows keeps it and the run.
use Rattle.std.proofs.Common.{◌≡◌, refl, sym, ap, ◌∙◌, List, [], ◌∷◌}
use Rattle.std.specs.Prelude.{Bool, true, false, ◌||◌, not, bytes_eq, codes, if◌then◌else◌}
use Rattle.es_tree.specs.Words.{Text}
use Rattle.es_tree.specs.Bare.{bare}
use Rattle.es_tree.specs.Core.{is_core_node, IsCoreProgram}
use Rattle.es_tree.specs.Fresh.{is_among}
use Rattle.es_tree.specs.Names.{names_of}
use Rattle.es_tree.specs.Scopes.{Declared, declared_of, declares, is_written}
use Rattle.es_tree.specs.Tree.{Tree}
use Rattle.es_tree.specs.Walks.{all_nodes}
use Rattle.es_runs.specs.Alike.{Like, Need, all_of_it, bad_names, set_cells, touches}
use Rattle.es_runs.specs.Core.{is_free, meaning}
use Rattle.es_runs.specs.Core.Binding.{changeable}
use Rattle.es_runs.specs.Machine.{Value, Move}
use Rattle.es_runs.specs.OpenRules.{is_bound_in, with_names}
use Rattle.es_runs.specs.OpenSteps.{Whole, whole_of}
use Rattle.es_runs.specs.Rules.{OnePlace, strays}
use Rattle.es_runs.specs.Runs.{SameRun, is_declared, none_hidden, outcome, run_where, scope_of}
use Rattle.es_runs.specs.Runs.Outcome.{called_uncallable}
use Rattle.es_runs.specs.Standing.{undeclaring}
use Rattle.es_runs.proofs.CoreWorlds.{core_world}
use Rattle.es_runs.proofs.SameOthers.{core_others}
use Rattle.es_runs.proofs.BareTrees.{declared_of-bare, names-bare, written-bare}
use Rattle.es_runs.proofs.CoreAlike.{core_alike}
use Rattle.es_runs.proofs.CoreRows.{core_rule, FreshInTurn}
use Rattle.es_runs.proofs.CoreRules.{after, are_vars, before, names_more, place_run}
use Rattle.es_runs.proofs.Declarations.{is_shaped, step_shaped}
use Rattle.es_runs.proofs.DeclaredNames.{core-bare, core_shaped, declared_used, is_declared-declares}
use Rattle.es_runs.proofs.FormUndeclaring.{source_undeclaring}
use Rattle.es_runs.proofs.FreshNames.{free_before, fresh_free, fresh_not_math, fresh_other, fresh_unused, not_taken}
use Rattle.es_runs.proofs.MathWords.{NoMathWord, unhidden_word}
use Rattle.es_runs.proofs.Kept.{somewhere, step_core, step_without}
use Rattle.es_runs.proofs.Named.{among-append, and_left, and_right, node_free, or_both}
use Rattle.es_runs.proofs.PlaceFacts.{NodeFacts, Placed, placed}
use Rattle.es_runs.proofs.RowKeeps.{row_core, row_fresh}
use Rattle.es_runs.proofs.RowKinds.{RowKinds, row_kind}
use Rattle.es_runs.proofs.RowNames.{row_unwritten, row_without}
use Rattle.es_runs.proofs.Temporary.{bytes_eq-flip}
use Rattle.es_runs.proofs.TidyPlaces.{tidy_place}
use Rattle.es_runs.proofs.Undeclaring.{step_undeclaring}
use Rattle.es_runs.proofs.Untouched.{untouched}
use Rattle.es_runs.proofs.OptionalChaining.{WhereTidy}
use Rattle.es_runs.proofs.WrittenNames.{step_unwritten}
use Rattle.es_runs.proofs.Written.{all_pending, one_of, scope_of-all_pending}

-- Its tree is core and shaped, with declarations where they may stand; its names, but for `Math`, and the declared ones are in
-- use; and the declared names are those that are bound, of which nothing writes the steady ones.
pub record Known (w : Whole) (ds : List Declared) (t : Tree) : Type 0 where
  pub core : all_nodes is_core_node t ≡ true
  pub shaped : is_shaped t ≡ true
  pub placed : all_nodes undeclaring t ≡ true
  pub names : (y : Text) → w.in_use y ≡ false → bytes_eq (codes "Math") y ≡ false → is_among (names_of t) y ≡ false
  pub declared : (y : Text) → w.in_use y ≡ false → is_declared ds y ≡ false
  pub bound : (y : Text) → is_declared ds y ≡ is_bound_in w y
  pub steady : (y : Text) → w.steady y ≡ true → is_bound_in w y ≡ true
  pub unwritten : (y : Text) → w.steady y ≡ true → is_written y t ≡ false

-- MORE NAMES

used_where : (used : Bool) → (used ≡ false → ⊥) → used ≡ true
used_where true h = refl
used_where false h = absurd (h refl)

either_scope : (a : Bool) (ds : List Declared) (y : Text) → not (is_free (if a then changeable else scope_of ds y)) ≡ (a || is_declared ds y)
either_scope true ds y = refl
either_scope false ds y = refl

pub declared-all_pending : (xs : List Text) (ds : List Declared) (y : Text) → is_declared (all_pending xs ds) y ≡ (one_of xs y || is_declared ds y)
declared-all_pending xs ds y = rw (scope_of-all_pending xs ds y) (either_scope (one_of xs y) ds y)

one_among : (xs : List Text) (y : Text) → is_among xs y ≡ one_of xs y
one_among [] y = refl
one_among (x ∷ xs) y = λ i. bytes_eq-flip x y i || one_among xs y i

turned : (a b c : Bool) → (b || (c || a)) ≡ (a || (b || c))
turned true true c = refl
turned true false true = refl
turned true false false = refl
turned false true c = refl
turned false false true = refl
turned false false false = refl

bound_with : (w : Whole) (xs : List Text) (y : Text) → is_bound_in (with_names xs w) y ≡ (one_of xs y || is_bound_in w y)
bound_with w xs y = ap (λ b. w.bound y || b) (among-append w.made xs y ∙ ap (λ b. is_among w.made y || b) (one_among xs y)) ∙ turned (one_of xs y) (w.bound y) (is_among w.made y)

or_later : (a b : Bool) → b ≡ true → (a || b) ≡ true
or_later true b e = refl
or_later false b e = e

negated : (a b : Bool) → not a ≡ b → a ≡ not b
negated true b e = rw (← e) refl
negated false b e = rw (← e) refl

-- ONE STEP

module _ (no_all : Bool) (w : Whole) (xs : List Text) where
  abbrev Row : Need → Tree → Tree → Type 0
  Row n a b = core_rule no_all w xs n a b

  kinds : (n : Need) (a b : Tree) → Row n a b → RowKinds a b
  kinds n a b r = row_kind no_all w r

  abbrev TidyRow : Need → Tree → Tree → Type 0
  TidyRow = WhereTidy Row

  tidy_kinds : (n : Need) (a b : Tree) → TidyRow n a b → RowKinds a b
  tidy_kinds n a b r = kinds n a b r.0

  fresh_names : {n : Need} {t u : Tree} → OnePlace Row n t u → FreshInTurn w.in_use xs
  fresh_names r = somewhere Row (FreshInTurn w.in_use xs) (λ n a b k. row_fresh no_all w k) r

  pub shaped_step : {n : Need} {t u : Tree} → OnePlace (core_rule no_all w xs) n t u → is_shaped t ≡ true → (is_shaped u ≡ true) × (declared_of u ≡ declared_of t)
  shaped_step r h = step_shaped Row kinds r h

  -- names in use keep their bindings
  pub same_binding : {t u : Tree} (ds : List Declared) → OnePlace (core_rule no_all w xs) all_of_it t u → (y : Text) → w.in_use y ≡ true → is_declared (all_pending xs ds) y ≡ is_declared ds y
  same_binding ds r y e = declared-all_pending xs ds y ∙ ap (λ b. b || is_declared ds y) (fresh_unused (fresh_names r) y e)

  module _ (ds : List Declared) (t u : Tree) (h : Known w ds t) (r : OnePlace (core_rule no_all w xs) all_of_it t u) where
    used_steady : (y : Text) → w.steady y ≡ true → w.in_use y ≡ true
    used_steady y e = used_where (w.in_use y) (λ free. absurd (cc (h.declared y free, h.bound y, h.steady y e)))

    pub still_known : Known (with_names xs w) (all_pending xs ds) u
    still_known = record {
      core = step_core Row (λ n a b. row_core no_all w) r h.core;
      shaped = (step_shaped Row kinds r h.shaped).0;
      placed = step_undeclaring no_all w xs r h.placed;
      names = λ y e math. (step_without Row y (λ n a b counts. row_without no_all w y (not_taken xs w.in_use y e) math counts) true r (record { core = h.core; free = h.names y (free_before xs w.in_use y e) math })).free;
      declared = λ y e. declared-all_pending xs ds y ∙ or_both (one_of xs y) (is_declared ds y) (not_taken xs w.in_use y e) (h.declared y (free_before xs w.in_use y e));
      bound = λ y. declared-all_pending xs ds y ∙ ap (λ b. one_of xs y || b) (h.bound y) ∙ sym (bound_with w xs y);
      steady = λ y e. bound_with w xs y ∙ or_later (one_of xs y) (is_bound_in w y) (h.steady y e);
      unwritten = λ y e. step_unwritten y Row kinds (λ n a b. row_unwritten no_all w y (fresh_unused (fresh_names r) y (used_steady y e))) r (h.unwritten y e);
    }

    facts : NodeFacts (one_of xs) w.steady true t
    facts = record {
      core_nodes = h.core;
      placed_nodes = h.placed;
      unnamed = λ y i. h.names y (fresh_free (fresh_names r) y i) (fresh_other (fresh_names r) y i);
      unwritten = h.unwritten;
    }

    module _ (this : Value) where
      math : one_of xs (codes "Math") ≡ false
      math = fresh_not_math (fresh_names r)

      base : (n : Need) (a b : Tree) → Placed (one_of xs) w.steady TidyRow tidy_kinds n a b → touches (bad_names (one_of xs) none_hidden) n a ≡ false → Like (set_cells (one_of xs)) (before (not no_all) xs ds this) (after (not no_all) xs ds this) n (meaning (before (not no_all) xs ds this) a) (meaning (after (not no_all) xs ds this) b)
      base n a b (row, known) free = core_alike no_all w xs (before (not no_all) xs ds this) (after (not no_all) xs ds this) (λ e. negated (is_free (scope_of ds (codes "Math"))) (is_bound_in w (codes "Math")) (h.bound (codes "Math")) ∙ ap not e) n a b refl (record {
        same = names_more (not no_all) xs ds this;
        others = core_others (one_of xs) w.steady (before (not no_all) xs ds this) (after (not no_all) xs ds this) (core_world _ _ _) (core_world _ _ _);
        math = math;
        cells = are_vars (not no_all) xs ds this;
        binds = λ y e. negated (is_free (scope_of ds y)) (is_bound_in w y) (h.bound y) ∙ ap not e;
        steady_bound = h.steady;
        placed = known.placed_nodes;
        untouched = untouched (one_of xs) w.steady n a (row_kind no_all w row.0).acted known.core_nodes known.placed_nodes known.unnamed known.unwritten;
      }) known.core_nodes row

      -- `Math` is none of the names
      words : (n : Need) (a b : Tree) → Placed (one_of xs) w.steady TidyRow tidy_kinds n a b → NoMathWord (one_of xs) (meaning (before (not no_all) xs ds this) a).form
      words n a b r = unhidden_word (one_of xs) (meaning (before (not no_all) xs ds this) a).form math

      pub one_step : (counts : Text → Bool) → ((y : Text) → counts y ≡ true → is_declared ds y ≡ true) → (moves : List Move) → strays false t ≡ false → (outcome (run_where (not no_all) ds t this moves) ≡ called_uncallable → ⊥) → SameRun counts (run_where (not no_all) ds t this moves) (run_where (not no_all) (all_pending xs ds) u this moves)
      one_step counts ok moves tidy callable =
          place_run (not no_all) xs ds this (Placed (one_of xs) w.steady TidyRow tidy_kinds) base words counts
          (λ y e. fresh_unused (fresh_names r) y (used_where (w.in_use y) (λ free. absurd (cc (h.declared y free, ok y e))))) t u
          (node_free (one_of xs) t all_of_it true h.core facts.unnamed (λ e. absurd (cc e)))
          (placed (one_of xs) w.steady TidyRow tidy_kinds true (tidy_place Row kinds false r tidy) facts) moves callable

-- THE SOURCE

or_false : (b : Bool) → (b || false) ≡ b
or_false true = refl
or_false false = refl

not_true : (b : Bool) → not b ≡ true → b ≡ false
not_true true e = absurd (cc e)
not_true false e = refl

pub source_known : (p : Tree) → IsCoreProgram p → Known (whole_of p) (declared_of (bare p)) (bare p)
source_known p is =
    let shaped = core_shaped p is in
    let names : (y : Text) → is_among (names_of p) y ≡ false → is_among (names_of (bare p)) y ≡ false = λ y e. rw (names-bare true p) e in
    record {
      core = core-bare p ∙ is.core;
      shaped = shaped;
      placed = source_undeclaring p is;
      names = λ y e math. names y e;
      declared = λ y e. is_declared-declares (declared_of (bare p)) y ∙ declared_used y (bare p) shaped (names y e);
      bound = λ y. is_declared-declares (declared_of (bare p)) y ∙ ap (λ ds. declares ds y) (declared_of-bare p) ∙ sym (or_false (declares (declared_of p) y));
      steady = λ y e. or_false (declares (declared_of p) y) ∙ and_left (declares (declared_of p) y) (not (is_written y p)) e;
      unwritten = λ y e. written-bare y p ∙ not_true (is_written y p) (and_right (declares (declared_of p) y) (not (is_written y p)) e);
    }
