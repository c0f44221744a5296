-- Temporaries by `var` at the top of a program's list.
use Rattle.std.proofs.Common.{◌≡◌, refl, List, [], ◌∷◌, ap, ◌∙◌}
use Rattle.std.specs.Prelude.{ℕ, Bool, true, false, ◌||◌, bytes_eq, if◌then◌else◌}
use Rattle.es_tree.specs.Words.{Text}
use Rattle.es_tree.specs.Tree.{Trees}
use Rattle.es_runs.specs.Machine.{Value, Move, Cell}
use Rattle.es_runs.specs.Machine.Value.{undefined, own}
use Rattle.es_runs.specs.Machine.OwnValue.{count}
use Rattle.es_runs.specs.Machine.Cell.{holds}
use Rattle.es_runs.specs.Machine.State.{state}
use Rattle.es_runs.specs.Core.{Binding}
use Rattle.es_runs.specs.Core.Binding.{changeable}
use Rattle.es_runs.specs.Alike.{Agree, SameWorld, set_cells}
use Rattle.es_runs.specs.Alike.Agree.{agree}
use Rattle.es_runs.specs.Runs.{world_of, scope_of, cells_of}
use Rattle.es_statement_runs.proofs.OwnCells.{own_apart, first_apart}
use Rattle.es_statement_runs.specs.Scopes.{is_own_cell, are_program_names, turns_cell}
use Rattle.es_statement_runs.specs.Names.{top_in}
use Rattle.es_statement_runs.specs.Runs.{start_cells}
use Rattle.es_statement_runs.specs.Laws.{among_names, vars_before}

or_later : {A : Type 0} (a b : Bool) (c d : A) → (if a then c else (if b then c else d)) ≡ (if a || b then c else d)
or_later true b c d = refl
or_later false b c d = refl

pub vars_scope : (xs : List Text) (after : Trees) (y : Text) → scope_of (top_in (vars_before xs after)) y ≡ (if among_names xs y then changeable else scope_of (top_in after) y)
vars_scope [] after y = refl
vars_scope (x ∷ xs) after y = ap (λ (b : Binding). if bytes_eq y x then changeable else b) (vars_scope xs after y) ∙ or_later (bytes_eq y x) (among_names xs y) changeable (scope_of (top_in after) y)

pub vars_cells : (xs : List Text) (after : Trees) (y : Text) → cells_of (top_in (vars_before xs after)) y ≡ (if among_names xs y then holds undefined else cells_of (top_in after) y)
vars_cells [] after y = refl
vars_cells (x ∷ xs) after y = ap (λ (b : Cell). if bytes_eq y x then holds undefined else b) (vars_cells xs after y) ∙ or_later (bytes_eq y x) (among_names xs y) (holds undefined) (cells_of (top_in after) y)

module _ (xs : List Text) (body after : Trees) (tops : top_in after ≡ top_in body) where
  pub vars_world : (counts : Bool) (this : Value) → SameWorld (among_names xs) (world_of counts this (top_in body)) (world_of counts this (top_in (vars_before xs after)))
  vars_world counts this = record { scope = λ y e. vars_scope xs after y ∙ (rw (e, tops) refl); this = refl; counts = refl }

  set_here : (b : Bool) (n : ℕ) (rest c : Cell) → c ≡ holds undefined → Rattle.es_runs.specs.Machine.is_set (if b then holds (own (count n)) else c) ≡ true
  set_here true n rest c e = refl
  set_here false n rest c e = rw e

  pub vars_start : (n : ℕ) (moves : List Move) → Agree (set_cells (among_names xs)) (state (start_cells n (top_in body)) moves []) (state (start_cells n (top_in (vars_before xs after))) moves [])
  vars_start n moves = agree
      (λ y e. ap (λ (c : Cell). if bytes_eq y turns_cell then holds (own (count n)) else c) (vars_cells xs after y ∙ (rw (e, tops) refl)))
      (λ y e. set_here (bytes_eq y turns_cell) n (holds undefined) (cells_of (top_in (vars_before xs after)) y) (vars_cells xs after y ∙ (rw e refl)))
      (λ y e. cc)

pub temporaries_apart : (xs : List Text) → are_program_names xs ≡ true → (y : Text) → is_own_cell y ≡ true → among_names xs y ≡ false
temporaries_apart [] h y e = refl
temporaries_apart (x ∷ xs) h y e = let k = first_apart (is_own_cell x) (are_program_names xs) h in (rw (own_apart x y k.0 e) (temporaries_apart xs k.1 y e))
