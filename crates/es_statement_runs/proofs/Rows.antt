-- A row of a lowering, in statements: the lemma of the core on meanings, as it is.
use Rattle.std.proofs.Common.{◌≡◌, refl, List, [], ◌∷◌, ap, ◌∙◌}
use Rattle.std.specs.Prelude.{ℕ, Bool, true, false, not, ◌&&◌, ◌||◌, Option, Some, None, codes, bytes_eq, if◌then◌else◌}
use Rattle.std.proofs.lemmas.Slice.Eq.{bytes_eq-Decides}
use Rattle.es_tree.specs.Words.{Text}
use Rattle.es_tree.specs.Names.{first_text as first}
use Rattle.es_tree.specs.Scopes.{Declared}
use Rattle.es_tree.specs.Tree.{Tree, Label, Trees, ◌then◌, ◌before◌}
use Rattle.es_runs.specs.Machine.{Value, M, Cell, Move, is_set}
use Rattle.es_runs.specs.Machine.Value.{undefined, own}
use Rattle.es_runs.specs.Machine.OwnValue.{count}
use Rattle.es_runs.specs.Machine.Cell.{holds}
use Rattle.es_runs.specs.Machine.State.{state}
use Rattle.es_runs.specs.Core.{World, value, in_order, name, parenthesized, assignment}
use Rattle.es_runs.specs.Core.Binding.{changeable}
use Rattle.es_runs.specs.Alike.{Agree, Alike, Equal, SameWorld, bad_names, value_and_form}
use Rattle.es_runs.specs.Alike.Agree.{agree}
use Rattle.es_runs.specs.Rules.{tested_by}
use Rattle.es_runs.specs.Runs.{world_of, none_hidden, only, program, var_statement, is_declared, cells_of}
use Rattle.es_runs.proofs.NullishCoalescingValues.{tested_meaning, nullish_alike, like_by_value}
use Rattle.es_runs.proofs.Temporary.{bytes_eq-self, bytes_eq-flip}
use Rattle.es_statement_runs.proofs.OwnCells.{own_apart}
use Rattle.es_statement_runs.specs.Scopes.{is_own_cell, turns_cell, stack_cell}
use Rattle.es_statement_runs.specs.Stacks.{with_stack_where}
use Rattle.es_statement_runs.specs.Names.{declared_at_top, names_of_all, top_in, using_in}
use Rattle.es_statement_runs.specs.Helpers.Supply.{no_helpers}
use Rattle.es_statement_runs.specs.Senses.{Sense, cores}
use Rattle.es_statement_runs.specs.Kinds.{sense, senses, kind_in, found}
use Rattle.es_statement_runs.specs.StatementParts.{begun}
use Rattle.es_statement_runs.specs.Alike.{Quiet, StackSeen, visible, all_visible, SenseLike, SensesLike}
use Rattle.es_statement_runs.specs.Alike.MoreLike.{same_nothing}
use Rattle.es_statement_runs.specs.Places.{Take, take, value_taken, quiet_at, CloseTrees, avoids}
use Rattle.es_statement_runs.specs.Runs.{run, start_cells}
use Rattle.es_statement_runs.specs.Laws.{hiding, NullishRow, LawNullish}
use Rattle.es_statement_runs.specs.Laws.NullishRow.{nullish_row}
use Rattle.es_statement_runs.proofs.Combinators.{stack_alike}
use Rattle.es_statement_runs.proofs.KindsAlike.{inner}
use Rattle.es_statement_runs.proofs.SensesAlike.{ends_like, begun_like, bodies_like}
use Rattle.es_statement_runs.proofs.Everywhere.{close_like, close_senses, close_self}
use Rattle.es_statement_runs.proofs.Everywhere.PlaceLike.{place_like}
use Rattle.es_statement_runs.proofs.RunLaws.{same_run, run_at, top_run}

module _ (x : Text) where
  -- the worlds count `document.all`, and x is a changeable name of the second
  pub record Known (w v : World) : Type 0 where
    pub bound : v.scope x ≡ changeable

  not_declared : (b : Bool) (rest : Option Text) (k : Text) → not (b || false) ≡ true → rest ≡ None → (if b then Some k else rest) ≡ None
  not_declared true rest k h e = absurd (cc h)
  not_declared false rest k h e = e

  left_of : (a b : Bool) → a && b ≡ true → a ≡ true
  left_of true b h = refl
  left_of false b h = absurd (cc h)

  right_of : (a b : Bool) → a && b ≡ true → b ≡ true
  right_of true b h = h
  right_of false b h = absurd (cc h)

  unseen : (ds : List Declared) → all_visible (hiding x) (names_of_all ds) ≡ true → kind_in ds x ≡ None
  unseen [] h = refl
  unseen (d ∷ ds) h = rw (bytes_eq-flip x d.name) (not_declared (bytes_eq d.name x) (kind_in ds x) d.kind (left_of (visible (hiding x) d.name) (all_visible (hiding x) (names_of_all ds)) h) (unseen ds (right_of (visible (hiding x) d.name) (all_visible (hiding x) (names_of_all ds)) h)))

  kept : (ds : List Declared) → all_visible (hiding x) (names_of_all ds) ≡ true → (w v : World) → Known w v → Known (inner w ds) (inner v ds)
  kept ds h w v k = record { bound = ap (λ (c : Option Text). found c x v.scope x) (unseen ds h) ∙ k.bound }

  module _ (quiet : Quiet (hiding x)) (stack : StackSeen (hiding x)) where
    untouched : (w v : World) → SameWorld (only x) w v → Known w v → (a : Tree) → avoids (bad_names (only x) none_hidden) value_taken a ≡ true → SenseLike (hiding x) w v value_taken (sense (quiet_at w [] []) a) (sense (quiet_at v [] []) a)
    untouched w v same k a h = close_like (hiding x) quiet stack (bad_names (only x) none_hidden) (λ m y k. k) no_helpers tt Known kept (λ t a b. ⊥) (λ t a b e. absurd e) (close_self (bad_names (only x) none_hidden) (λ t a b. ⊥) a value_taken h) (place_like same k)

    -- what the row makes means what the lemma of the core says
    made_as : (v : World) (ls : List Text) (y : Text) (m : Label) (l r : Tree) → (sense (quiet_at v ls y) (tested_by m x l r)).core ≡ tested_meaning v (parenthesized (assignment v (codes "=") (name x) (sense (quiet_at v [] []) l).core)) (name x) (sense (quiet_at v [] []) r).core
    made_as v ls y m l r = refl

    row_like : (t : Take) (a b : Tree) → NullishRow x t a b → (w v : World) → SameWorld (only x) w v → Known w v → (ls : List Text) (y : Text) → SenseLike (hiding x) w v t (sense (quiet_at w ls y) a) (sense (quiet_at v ls y) b)
    row_like t _ _ (nullish_row {m = m} {l = l} {r = r} texts left right) w v same k ls y = rw (ap first texts) (record {
      core = like_by_value (only x) w v same t.need _ _
          (nullish_alike (only x) w v same x (bytes_eq-self x) k.bound (sense (quiet_at w [] []) r).core (sense (quiet_at v [] []) r).core (untouched w v same k r right).core.evaluation (sense (quiet_at w [] []) l).core (sense (quiet_at v [] []) l).core (untouched w v same k l left).core.evaluation);
      more = λ _. same_nothing;
    })

module _ (x : Text) (l : Label) (ds body after : Trees) (rows : CloseTrees (bad_names (only x) none_hidden) (NullishRow x) (take (value_and_form false) true) body after) (tops : top_in after ≡ top_in body) (uses : using_in after ≡ using_in body) (not_math : bytes_eq (codes "Math") x ≡ false) (no_own : is_own_cell x ≡ false) (this : Value) where
  abbrev old_names : List Declared
  old_names = declared_at_top (program l ds body)

  abbrev new_names : List Declared
  new_names = record { name = x; kind = codes "var" } ∷ old_names

  abbrev old_world : World
  old_world = world_of true this old_names

  abbrev new_world : World
  new_world = world_of true this new_names

  row_quiet : Quiet (hiding x)
  row_quiet = record { own_seen = λ y e i. record { hidden = own_apart x y no_own e; frozen = refl; loose = refl }; math = not_math }

  row_stack : StackSeen (hiding x)
  row_stack = record { hidden = own_apart x stack_cell no_own refl; frozen = refl; loose = refl }

  row_world : SameWorld (only x) old_world new_world
  row_world = record { scope = λ y e. rw e; this = refl; counts = refl }

  row_known : Known x old_world new_world
  row_known = record { bound = rw (bytes_eq-self x) refl }

  abbrev body_taken : Take
  body_taken = take (value_and_form false) true

  rows_like : SensesLike (hiding x) old_world new_world body_taken (senses (quiet_at old_world [] []) body) (senses (quiet_at new_world [] []) after)
  rows_like = close_senses (hiding x) row_quiet row_stack (bad_names (only x) none_hidden) (λ m y k. k) no_helpers tt (Known x) (kept x) (NullishRow x) (row_like x row_quiet row_stack) rows (place_like row_world row_known)

  abbrev list_of : World → Bool → List Sense → M Value
  list_of w b es = begun es (with_stack_where b (in_order w (cores es)))

  list_alike : Alike (hiding x) Equal (list_of old_world (using_in body) (senses (quiet_at old_world [] []) body)) (list_of new_world (using_in after) (senses (quiet_at new_world [] []) after))
  list_alike = rw uses (begun_like (hiding x) row_quiet old_world new_world row_world rows_like (stack_alike (hiding x) row_quiet (using_in body) (λ _. row_stack) (bodies_like (hiding x) row_quiet old_world new_world row_world refl rows_like)))

  program_alike : Alike (hiding x) Equal (value old_world (sense (quiet_at old_world [] []) (program l ds body)).core) (value new_world (sense (quiet_at new_world [] []) (program l ds (var_statement x before after))).core)
  program_alike = (ends_like (hiding x) row_quiet old_world new_world row_world value_taken list_alike).core.evaluation

  set_either : (b c : Bool) (n : ℕ) (rest : Cell) → c ≡ true → is_set (if b then holds (own (count n)) else (if c then holds undefined else rest)) ≡ true
  set_either true c n rest e = refl
  set_either false c n rest e = rw e

  first_cells : (n : ℕ) (moves : List Move) → Agree (hiding x) (state (start_cells n old_names) moves []) (state (start_cells n new_names) moves [])
  first_cells n moves = agree (λ y e. rw e) (λ y e. set_either (bytes_eq y turns_cell) (bytes_eq y x) n (cells_of old_names y) e) (λ y e. cc)

  counted_hides : is_declared old_names x ≡ false → (y : Text) → is_declared old_names y ≡ true → only x y ≡ false
  counted_hides d y e = not_same (bytes_eq y x) refl
    where
      not_same : (b : Bool) → bytes_eq y x ≡ b → b ≡ false
      not_same false h = refl
      not_same true h = let k : y ≡ x = (bytes_eq-Decides y x).0 h in cc

  names_after : declared_at_top (program l ds (var_statement x before after)) ≡ new_names
  names_after = ap (λ (es : List Declared). record { name = x; kind = codes "var" } ∷ es) tops

pub law_nullish_proof : LawNullish
law_nullish_proof x l ds body after rows tops uses not_math no_own undeclared n this moves assumed t ms inside =
    let q : Tree = program l ds (var_statement x before after) in
    let target : run no_helpers n q this moves ≡ run_at n this (new_names x l ds body after rows tops uses not_math no_own this) q moves = top_run n q this moves ∙ ap (λ (es : List Declared). run_at n this es q moves) (names_after x l ds body after rows tops uses not_math no_own this) in
    rw target (same_run (hiding x) (is_declared (declared_at_top (program l ds body))) (counted_hides x l ds body after rows tops uses not_math no_own this undeclared) inside
    (program_alike x l ds body after rows tops uses not_math no_own this _ _ (first_cells x l ds body after rows tops uses not_math no_own this n moves)))
