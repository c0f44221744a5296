-- The laws of place and of fresh names, for statements.
use Rattle.std.proofs.Common.{◌≡◌, refl, sym, subst, List, [], ap, ◌∙◌}
use Rattle.std.specs.Prelude.{ℕ, Bool, true, false, codes, bytes_eq, if◌then◌else◌}
use Rattle.std.proofs.lemmas.Slice.Eq.{bytes_eq-Decides}
use Rattle.es_tree.specs.Words.{Text}
use Rattle.es_tree.specs.Scopes.{Declared, declared_of}
use Rattle.es_tree.specs.Tree.{Tree, Label, Trees, ◌before◌}
use Rattle.es_runs.specs.Machine.{Value, M, Cell, State, Stop, Result, Move, is_set}
use Rattle.es_runs.specs.Machine.Value.{undefined, own}
use Rattle.es_runs.specs.Machine.OwnValue.{count}
use Rattle.es_runs.specs.Machine.Cell.{unset, holds}
use Rattle.es_runs.specs.Machine.State.{state}
use Rattle.es_runs.specs.Machine.Stop.{throws, waits, uncallable, cut, unknown, breaks, continues, out_of_turns, faults}
use Rattle.es_runs.specs.Machine.Result.{gives, stops}
use Rattle.es_runs.specs.Core.{World, value, in_order, Meaning, meaning}
use Rattle.es_runs.specs.Alike.{Frame, CellSeen, is_loose, set_cells, Agree, Same, Alike, Equal, SameWorld, bad_names, value_and_form, all_of_it}
use Rattle.es_runs.specs.Alike.Agree.{agree}
use Rattle.es_runs.specs.Alike.Same.{both_give, both_stop, outside as is_outside, at_fault}
use Rattle.es_runs.specs.Alike.Equal.{equal}
use Rattle.es_runs.specs.Runs.{world_of, none_hidden, only, program, var_statement, is_declared, cells_of, stands, outcome as core_outcome}
use Rattle.es_runs.specs.Runs.Outcome.{called_uncallable}
use Rattle.es_runs.proofs.Basic.{value_alike}
use Rattle.es_runs.proofs.Fresh.{near_self}
use Rattle.es_runs.proofs.Everywhere.{near_like}
use Rattle.es_runs.proofs.CoreWorlds.{IsCoreWorld, core_world}
use Rattle.es_statement_runs.proofs.KindsAlike.{inner}
use Rattle.es_statement_runs.proofs.OwnCells.{own_apart}
use Rattle.es_statement_runs.specs.Scopes.{is_own_cell, turns_cell, stack_cell}
use Rattle.es_statement_runs.specs.Stacks.{with_stack_where}
use Rattle.es_statement_runs.specs.Names.{declared_at_top, using_in}
use Rattle.es_statement_runs.specs.Helpers.Supply.{no_helpers}
use Rattle.es_statement_runs.specs.Kinds.{sense, senses}
use Rattle.es_statement_runs.specs.Senses.{cores}
use Rattle.es_statement_runs.specs.StatementParts.{begun}
use Rattle.es_statement_runs.specs.Alike.{Quiet, StackSeen, SenseLike, SensesLike}
use Rattle.es_statement_runs.specs.Alike.MoreLike.{same_nothing}
use Rattle.es_statement_runs.specs.Places.{Take, take, value_taken, quiet_at, Close, avoids_trees}
use Rattle.es_statement_runs.specs.Runs.{run, run_in, start_cells, outcome, SameRun}
use Rattle.es_statement_runs.specs.Runs.Outcome.{outside}
use Rattle.es_statement_runs.proofs.CoreSenses.{core_meaning}
use Rattle.es_statement_runs.specs.Laws.{EvaluateAlike, Swaps, no_frame, open_frame, LawPlace, hiding, LawFresh, AsInCore, LawCoreRun}
use Rattle.es_statement_runs.specs.Laws.Swaps.{swaps}
use Rattle.es_statement_runs.proofs.Combinators.{stack_alike}
use Rattle.es_statement_runs.proofs.SensesAlike.{ends_like, begun_like, bodies_like}
use Rattle.es_statement_runs.proofs.Everywhere.{close_like, close_senses, close_trees}
use Rattle.es_statement_runs.proofs.Everywhere.PlaceLike.{place_like}

stop_outcome : (w : Stop) (s t : State) → outcome (stops w t) ≡ outcome (stops w s)
stop_outcome (throws u) s t = refl
stop_outcome waits s t = refl
stop_outcome uncallable s t = refl
stop_outcome cut s t = refl
stop_outcome unknown s t = refl
stop_outcome (breaks l) s t = refl
stop_outcome (continues l) s t = refl
stop_outcome out_of_turns s t = refl
stop_outcome (faults z) s t = refl

-- a cell that the first program has set
seen_set : (l : Bool) (c d : Cell) → is_set c ≡ true → CellSeen l c d → d ≡ c
seen_set false c d e h = h
seen_set true unset d e h = absurd (cc e)
seen_set true (holds v) d e h = h

pub same_run : (F : Frame) (counts : Text → Bool) → ((x : Text) → counts x ≡ true → F.hidden x ≡ false) → {r q : Result Value} → (outcome r ≡ outside → ⊥) → Same F Equal r q → SameRun counts r q
same_run F counts ok inside (both_give equal (agree {c = c} {d = d} h g f)) = record { outcomes = refl; questions = refl; final_cells = λ x e i. seen_set (is_loose F x) (c x) (d x) i (h x (ok x e)) }
same_run F counts ok inside (both_stop {w = w} {s = s} {t = t} (agree {c = c} {d = d} h g f)) = record { outcomes = stop_outcome w _ _; questions = refl; final_cells = λ x e i. seen_set (is_loose F x) (c x) (d x) i (h x (ok x e)) }
same_run F counts ok inside is_outside = absurd (inside refl)
same_run F counts ok inside (at_fault e) = absurd (inside refl)

abbrev pub run_at : ℕ → Value → List Declared → Tree → List Move → Result Value
run_at n this ds t moves = run_in (quiet_at (world_of true this ds) [] []) n ds t moves

pub top_run : (n : ℕ) (t : Tree) (this : Value) (moves : List Move) → run no_helpers n t this moves ≡ run_at n this (declared_at_top t) t moves
top_run n t this moves = refl

-- PLACES

pub nothing_quiet : Quiet no_frame
nothing_quiet = record { own_seen = λ y e i. record { hidden = refl; frozen = refl; loose = refl }; math = refl }

pub nothing_stack : StackSeen no_frame
nothing_stack = record { hidden = refl; frozen = refl; loose = refl }

pub same_self : {A : Type 0} (r : Result A) → Same no_frame Equal r r
same_self (gives a (state c ms qs)) = both_give equal (agree (λ x e. refl) (λ x e. cc) (λ x e. cc))
same_self (stops w (state c ms qs)) = both_stop (agree (λ x e. refl) (λ x e. cc) (λ x e. cc))

pub same_states : {s t : State} → Agree no_frame s t → t ≡ s
same_states (agree {ms = ms} {qs = qs} h g f) = ap (λ c. state c ms qs) (λ i x. h x refl i)

pub values_agree : (m k : M Value) → ((s : State) → k s ≡ m s) → Alike no_frame Equal m k
values_agree m k h s t g = rw (same_states g, h s) (same_self (m s))

pub agree_self : (s : State) → Agree no_frame s s
agree_self (state c ms qs) = agree (λ x e. refl) (λ x e. cc) (λ x e. cc)

pub same_world : (w : World) → SameWorld none_hidden w w
same_world w = record { scope = λ x e. refl; this = refl; counts = refl }

-- what isn't core is the same in both worlds
pub record SameRest (w v : World) : Type 0 where
  pub other : v.other ≡ w.other
  pub spreads : v.spreads ≡ w.spreads

pub worlds_equal : (w v : World) → SameRest w v → SameWorld none_hidden w v → w ≡ v
worlds_equal w v rest same = λ i. record { scope = λ x. sym (same.scope x refl) i; this = sym same.this i; counts_all = sym same.counts i; other = sym rest.other i; spreads = sym rest.spreads i }

pub record Counting (w v : World) : Type 0 where
  pub counts : w.counts_all ≡ true
  pub rest : SameRest w v

counted : (ds : List Declared) (u v : World) → Counting u v → Counting (inner u ds) (inner v ds)
counted ds u v k = record { counts = k.counts; rest = record { other = k.rest.other; spreads = k.rest.spreads } }

open_quiet : Quiet open_frame
open_quiet = record { own_seen = λ y e i. record { hidden = refl; frozen = refl; loose = refl }; math = refl }

open_stack : StackSeen open_frame
open_stack = record { hidden = refl; frozen = refl; loose = refl }

open_agree : (s : State) → Agree open_frame s s
open_agree (state c ms qs) = agree (λ x e. refl) (λ x e. cc) (λ x e. cc)

open_states : {s t : State} → Agree open_frame s t → t ≡ s
open_states (agree {ms = ms} {qs = qs} h g f) = ap (λ c. state c ms qs) (λ i x. h x refl i)

open_alike : (m k : M Value) → ((s : State) → Same open_frame Equal (m s) (k s)) → Alike open_frame Equal m k
open_alike m k h s t g = rw (open_states g) (h s)

-- equal results are the same
pub open_equal : (r q : Result Value) → q ≡ r → Same open_frame Equal r q
open_equal r q e = rw e (at r)
  where
    at : (r : Result Value) → Same open_frame Equal r r
    at (gives a s) = both_give equal (open_agree s)
    at (stops w s) = both_stop (open_agree s)

module _ (form more : Bool) (e d : Tree) (alike : EvaluateAlike form more e d) where
  here_like : (w : World) → w.counts_all ≡ true → (ls : List Text) (x : Text) → SenseLike open_frame w w (take (value_and_form form) more) (sense (quiet_at w ls x) e) (sense (quiet_at w ls x) d)
  here_like w c ls x = record {
    core = record { evaluation = open_alike (value w (sense (quiet_at w ls x) e).core) (value w (sense (quiet_at w ls x) d).core) (alike.values w c ls x); form = λ h. alike.forms h w ls x };
    more = λ h. rw (alike.first_says h w ls x, alike.second_says h w ls x) same_nothing;
  }

  swaps_like : (t : Take) (a b : Tree) → Swaps (take (value_and_form form) more) e d t a b → (w v : World) → SameWorld none_hidden w v → Counting w v → (ls : List Text) (x : Text) → SenseLike open_frame w v t (sense (quiet_at w ls x) a) (sense (quiet_at v ls x) b)
  swaps_like t a b swaps w v same c ls x = subst (λ (u : World). SenseLike open_frame w u (take (value_and_form form) more) (sense (quiet_at w ls x) e) (sense (quiet_at u ls x) d)) (worlds_equal w v c.rest same) (here_like w c.counts ls x)

  places_same : (p q : Tree) → Close (bad_names none_hidden none_hidden) (Swaps (take (value_and_form form) more) e d) value_taken p q → (w : World) → w.counts_all ≡ true → (s : State) →
      Same open_frame Equal (value w (sense (quiet_at w [] []) p).core s) (value w (sense (quiet_at w [] []) q).core s)
  places_same p q h w c s = (close_like open_frame open_quiet open_stack (bad_names none_hidden none_hidden) (λ m y k. k) no_helpers tt Counting (λ ds vis u v k. counted ds u v k) (Swaps (take (value_and_form form) more) e d) swaps_like h (place_like (same_world w) (record { counts = c; rest = record { other = refl; spreads = refl } }))).core.evaluation s s (open_agree s)

pub law_place_proof : LawPlace
law_place_proof form more e d p q h alike names n this moves assumed t ms inside =
    let ds : List Declared = declared_at_top p in
    let first : run no_helpers n p this moves ≡ run_at n this ds p moves = top_run n p this moves in
    let second : run no_helpers n q this moves ≡ run_at n this ds q moves = top_run n q this moves ∙ ap (λ (es : List Declared). run_at n this es q moves) names in
    rw (first, second) (same_run open_frame (is_declared ds) (λ x k. refl) (λ k. inside (ap outcome first ∙ k)) (places_same form more e d alike p q h (world_of true this ds) refl (state (start_cells n ds) moves [])))

-- CORE PROGRAMS

as_in_core : (hidden : Text → Bool) (counts : Text → Bool) → ((x : Text) → counts x ≡ true → hidden x ≡ false) → {r q : Result Value} → (core_outcome r ≡ called_uncallable → ⊥) → Same (set_cells hidden) Equal r q → AsInCore counts r q
as_in_core hidden counts ok callable (both_give equal (agree h g f)) = record { outcomes = refl; questions = refl; final_cells = λ x e. h x (ok x e) }
as_in_core hidden counts ok callable (both_stop {w = w} {s = s} {t = t} (agree h g f)) = record { outcomes = stop_outcome w _ _; questions = refl; final_cells = λ x e. h x (ok x e) }
as_in_core hidden counts ok callable is_outside = absurd (callable refl)
as_in_core hidden counts ok callable (at_fault e) = absurd (cc e)

abbrev turns_frame : Frame
turns_frame = set_cells (only turns_cell)

turns_world : (w : World) → SameWorld (only turns_cell) w w
turns_world w = record { scope = λ x e. refl; this = refl; counts = refl }

core_alike : (w : World) → IsCoreWorld w → (p : Tree) → stands turns_cell p ≡ false → Alike turns_frame Equal (value w (meaning w p)) (value w (meaning w p))
core_alike w core p h = value_alike turns_frame w w (turns_world w) (meaning w p) (meaning w p) (near_like turns_frame w w (turns_world w) core core (λ n a b. ⊥) (λ n a b e. absurd e) (λ n a b e. absurd e) (near_self (bad_names (only turns_cell) none_hidden) (λ n a b. ⊥) p all_of_it h)).evaluation

with_turns : (n : ℕ) (ds : List Declared) (y : Text) → only turns_cell y ≡ false → start_cells n ds y ≡ cells_of ds y
with_turns n ds y e = rw e

turns_set : (n : ℕ) (ds : List Declared) (y : Text) → only turns_cell y ≡ true → is_set (start_cells n ds y) ≡ true
turns_set n ds y e = rw e

turns_agree : (n : ℕ) (ds : List Declared) (moves : List Move) → Agree turns_frame (state (cells_of ds) moves []) (state (start_cells n ds) moves [])
turns_agree n ds moves = agree (with_turns n ds) (turns_set n ds) (λ y e. cc)

declared_apart : (declared : Text → Bool) → declared turns_cell ≡ false → (y : Text) → declared y ≡ true → only turns_cell y ≡ false
declared_apart declared d y e = not_same (bytes_eq y turns_cell) refl
  where
    not_same : (b : Bool) → bytes_eq y turns_cell ≡ b → b ≡ false
    not_same false h = refl
    not_same true h = let k : y ≡ turns_cell = (bytes_eq-Decides y turns_cell).0 h in let i : declared y ≡ declared turns_cell = ap declared k in cc

pub law_core_run_proof : LawCoreRun
law_core_run_proof n p core names apart undeclared this moves callable =
    let ds : List Declared = declared_of p in
    let w : World = world_of true this ds in
    let first : run no_helpers n p this moves ≡ run_at n this ds p moves = top_run n p this moves ∙ ap (λ (es : List Declared). run_at n this es p moves) names in
    let second : run_at n this ds p moves ≡ value w (meaning w p) (state (start_cells n ds) moves []) = ap (λ (m : Meaning). value w m (state (start_cells n ds) moves [])) (core_meaning w p core) in
    let all : run no_helpers n p this moves ≡ value w (meaning w p) (state (start_cells n ds) moves []) = first ∙ second in
    rw all (as_in_core (only turns_cell) (is_declared ds) (declared_apart (is_declared ds) undeclared) callable (core_alike w (core_world _ _ _) p apart _ _ (turns_agree n ds moves)))

-- FRESH NAMES

module _ (x : Text) (l : Label) (ds body : Trees) (nowhere : avoids_trees (bad_names (only x) none_hidden) (take (value_and_form false) true) body ≡ true) (not_math : bytes_eq (codes "Math") x ≡ false) (no_own : is_own_cell x ≡ false) (this : Value) where
  abbrev old_names : List Declared
  old_names = declared_at_top (program l ds body)

  abbrev new_names : List Declared
  new_names = declared_at_top (program l ds (var_statement x before body))

  abbrev old_world : World
  old_world = world_of true this old_names

  abbrev new_world : World
  new_world = world_of true this new_names

  fresh_quiet : Quiet (hiding x)
  fresh_quiet = record { own_seen = λ y e i. record { hidden = own_apart x y no_own e; frozen = refl; loose = refl }; math = not_math }

  fresh_stack : StackSeen (hiding x)
  fresh_stack = record { hidden = own_apart x stack_cell no_own refl; frozen = refl; loose = refl }

  fresh_world : SameWorld (only x) old_world new_world
  fresh_world = record { scope = λ y e. rw e; this = refl; counts = refl }

  abbrev body_taken : Take
  body_taken = take (value_and_form false) true

  no_place : (t : Take) (a b : Tree) → ⊥ → (w v : World) → SameWorld (only x) w v → Counting w v → (ls : List Text) (y : Text) → SenseLike (hiding x) w v t (sense (quiet_at w ls y) a) (sense (quiet_at v ls y) b)
  no_place t a b e = absurd e

  body_like : SensesLike (hiding x) old_world new_world body_taken (senses (quiet_at old_world [] []) body) (senses (quiet_at new_world [] []) body)
  body_like = close_senses (hiding x) fresh_quiet fresh_stack (bad_names (only x) none_hidden) (λ m y k. k) no_helpers tt Counting (λ ds vis u v k. counted ds u v k) (λ t a b. ⊥) no_place (close_trees (bad_names (only x) none_hidden) (λ t a b. ⊥) body body_taken nowhere) (place_like fresh_world (record { counts = refl; rest = record { other = refl; spreads = refl } }))

  abbrev body_of : World → M Value
  body_of w = begun (senses (quiet_at w [] []) body) (with_stack_where (using_in body) (in_order w (cores (senses (quiet_at w [] []) body))))

  body_alike : Alike (hiding x) Equal (body_of old_world) (body_of new_world)
  body_alike = begun_like (hiding x) fresh_quiet old_world new_world fresh_world body_like (stack_alike (hiding x) fresh_quiet (using_in body) (λ _. fresh_stack) (bodies_like (hiding x) fresh_quiet old_world new_world fresh_world refl body_like))

  program_alike : Alike (hiding x) Equal (value old_world (sense (quiet_at old_world [] []) (program l ds body)).core) (value new_world (sense (quiet_at new_world [] []) (program l ds (var_statement x before body))).core)
  program_alike = (ends_like (hiding x) fresh_quiet old_world new_world fresh_world value_taken body_alike).core.evaluation

  set_either : (b c : Bool) (n : ℕ) (rest : Cell) → c ≡ true → is_set (if b then holds (own (count n)) else (if c then holds undefined else rest)) ≡ true
  set_either true c n rest e = refl
  set_either false c n rest e = rw e

  first_cells : (n : ℕ) (moves : List Move) → Agree (hiding x) (state (start_cells n old_names) moves []) (state (start_cells n new_names) moves [])
  first_cells n moves = agree (λ y e. rw e) (λ y e. set_either (bytes_eq y turns_cell) (bytes_eq y x) n (cells_of old_names y) e) (λ y e. cc)

  counted_hides : is_declared old_names x ≡ false → (y : Text) → is_declared old_names y ≡ true → only x y ≡ false
  counted_hides d y e = not_same (bytes_eq y x) refl
    where
      not_same : (b : Bool) → bytes_eq y x ≡ b → b ≡ false
      not_same false h = refl
      not_same true h = let k : y ≡ x = (bytes_eq-Decides y x).0 h in cc

pub law_fresh_proof : LawFresh
law_fresh_proof x l ds body nowhere not_math no_own undeclared n this moves assumed t ms inside =
    same_run (hiding x) (is_declared (declared_at_top (program l ds body))) (counted_hides x l ds body nowhere not_math no_own this undeclared) inside
    (program_alike x l ds body nowhere not_math no_own this _ _ (first_cells x l ds body nowhere not_math no_own this n moves))
