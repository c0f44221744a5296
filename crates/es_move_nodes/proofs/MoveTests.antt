-- Tests of patterns that move, as the code makes them one after the other, and as they are defined.
use Rattle.std.proofs.Common.{◌≡◌, ◌∙◌, ◌+◌, ◌-◌, ◌<◌, ◌≤◌, ℕ, zero, suc, refl, ap, arith, add-one, sym, List, [], ◌∷◌, Bool, true, false, drop, get_or, length, subst, take}
use Rattle.std.specs.Prelude.{◌||◌, ◌&&◌, not}
use Rattle.std.specs.List.{list_all, list_any}
use Rattle.std.proofs.Math.Seq.{take-length}
use Rattle.std.proofs.lemmas.List.{length-drop}
use Rattle.std.proofs.lemmas.List.Folds.{list_any-append}
use Rattle.es_tree.specs.BoundNames.{bound_identifiers, bound_in_field, bound_in_fields, bound_in_trees}
use Rattle.es_tree.specs.Tree.{Tree, Trees, empty, ◌before◌, trees}
use Rattle.es_tree.specs.Views.{plain_field, plain_fields}
use Rattle.es_tree.specs.Words.{Text}
use Rattle.es_tree.specs.declared.node.Field.{Field as NodeField}
use Rattle.es_steps.specs.Nodes.{joined_trees}
use Rattle.es_pattern_moves.specs.PatternMoves.{all_may_move, are_later, is_called, is_later, is_rest_parameter, may_move, var_among, var_declares}
use Rattle.es_rest_rows.specs.RestRows.{binds_name}
use Rattle.es_move_nodes.specs.MoveFields.{binds_in_field, is_stuck}

-- BOUND NAMES

abbrev pub binds_in_nodes : Text → List Tree → Bool
binds_in_nodes x ts = list_any (is_called x) (bound_in_trees (trees ts))

abbrev pub binds_in_fields : Text → List NodeField → Bool
binds_in_fields x fs = list_any (is_called x) (bound_in_fields (plain_fields fs))

pub nodes-step : (x : Text) (t : Tree) (ts : List Tree) → binds_in_nodes x (t ∷ ts) ≡ (binds_name x t || binds_in_nodes x ts)
nodes-step x t ts = list_any-append (is_called x) (bound_identifiers t) (bound_in_trees (trees ts))

pub fields-step : (x : Text) (f : NodeField) (fs : List NodeField) → binds_in_fields x (f ∷ fs) ≡ (binds_in_field x (plain_field f) || binds_in_fields x fs)
fields-step x f fs = list_any-append (is_called x) (bound_in_field (plain_field f)) (bound_in_fields (plain_fields fs))

-- DECLARATIONS

pub any-vars : (x : Text) (ts : List Tree) → list_any (var_declares x) ts ≡ var_among x (trees ts)
any-vars x [] = refl
any-vars x (t ∷ ts) = ap (λ b. var_declares x t || b) (any-vars x ts)

and-false : (a : Bool) → (a && false) ≡ false
and-false true = refl
and-false false = refl

-- PARAMETERS

pub all-later : (ts : List Tree) → list_all is_later ts ≡ are_later (trees ts)
all-later [] = refl
all-later (t ∷ ts) = ap (λ b. is_later t && b) (all-later ts)

joined-empty : (a : Trees) → joined_trees a empty ≡ a
joined-empty empty = refl
joined-empty (t before a) = ap (λ b. t before b) (joined-empty a)

joined-again : (a : Trees) (t : Tree) (b : Trees) → joined_trees (joined_trees a (t before empty)) b ≡ joined_trees a (t before b)
joined-again empty t b = refl
joined-again (u before a) t b = ap (λ c. u before c) (joined-again a t b)

-- as the definition asks it
abbrev stays_or_moves : Trees → Tree → Trees → Trees → Bool
stays_or_moves a t c ts = not (is_rest_parameter t) || may_move a t c ts

asked : (a b : Bool) → (not a || b) ≡ not (a && not b)
asked true true = refl
asked true false = refl
asked false b = refl

as-asked : (a : Trees) (t : Tree) (c ts : Trees) (b : Bool) → is_stuck a t c ts ≡ b → stays_or_moves a t c ts ≡ not b
as-asked a t c ts b h = asked (is_rest_parameter t) (may_move a t c ts) ∙ ap not h

left-false : (a b : Bool) → a ≡ false → (a && b) ≡ false
left-false a b h = rw h refl

right-false : (a b : Bool) → b ≡ false → (a && b) ≡ false
right-false a b h = rw h (and-false a)

rest_of : (ts : List Tree) (i : ℕ) → take (length ts - i) (drop i ts) ≡ drop i ts
rest_of ts i = let P : ℕ → Type 0 = λ n. take n (drop i ts) ≡ drop i ts in subst P (length-drop i ts) (take-length (drop i ts))

module _ (body : Trees) where
  -- from this parameter on
  abbrev pub rest_may_move : Trees → List Tree → Bool
  rest_may_move a ts = all_may_move a (trees ts) body

  -- one of them may not move
  fails-onto : (a : Trees) (ts : List Tree) (i : ℕ) (t : Tree) → i < length ts → t ≡ get_or ts i t → stays_or_moves (joined_trees a (trees (take i ts))) t (trees (drop (suc i) ts)) body ≡ false → rest_may_move a ts ≡ false
  fails-onto a [] i t l e h = absurd (omega (arith, l))
  fails-onto a (u ∷ ts) zero t l e h =
      left-false (stays_or_moves a u (trees ts) body) (rest_may_move (joined_trees a (u before empty)) ts)
      (ap (λ v. stays_or_moves a v (trees ts) body) (sym e) ∙ (ap (λ b. stays_or_moves b t (trees ts) body) (sym (joined-empty a)) ∙ h))
  fails-onto a (u ∷ ts) (suc i) t l e h =
      right-false (stays_or_moves a u (trees ts) body) (rest_may_move (joined_trees a (u before empty)) ts)
      (fails-onto (joined_trees a (u before empty)) ts i t (omega (arith, l)) e (ap (λ b. stays_or_moves b t (trees (drop (suc i) ts)) body) (joined-again a u (trees (take i ts))) ∙ h))

  -- the first parameters are passed, and the others are left
  steps-onto : (a : Trees) (ts : List Tree) (i : ℕ) (t : Tree) → i < length ts → t ≡ get_or ts i t → stays_or_moves (joined_trees a (trees (take i ts))) t (trees (drop (suc i) ts)) body ≡ true →
      rest_may_move (joined_trees a (trees (take i ts))) (drop i ts) ≡ rest_may_move (joined_trees a (trees (take (suc i) ts))) (drop (suc i) ts)
  steps-onto a [] i t l e h = absurd (omega (arith, l))
  steps-onto a (u ∷ ts) zero t l e h = rw (joined-empty a) (ap (λ b. b && rest_may_move (joined_trees a (u before empty)) ts) (ap (λ v. stays_or_moves a v (trees ts) body) (sym e) ∙ (ap (λ b. stays_or_moves b t (trees ts) body) (sym (joined-empty a)) ∙ h)))
  steps-onto a (u ∷ ts) (suc i) t l e h =
      rw (← joined-again a u (trees (take i ts)), ← joined-again a u (trees (take (suc i) ts)))
      (steps-onto (joined_trees a (u before empty)) ts i t (omega (arith, l)) e (ap (λ b. stays_or_moves b t (trees (drop (suc i) ts)) body) (joined-again a u (trees (take i ts))) ∙ h))

  pub fails-at : (ts : List Tree) (i : ℕ) (t : Tree) → i < length ts → t ≡ get_or ts i t → is_stuck (trees (take i ts)) t (trees (take (length ts - (i + 1)) (drop (i + 1) ts))) body ≡ true → rest_may_move empty ts ≡ false
  fails-at ts i t l e h =
      fails-onto empty ts i t l e (rw (← add-one i, ← rest_of ts (i + 1)) (as-asked (trees (take i ts)) t (trees (take (length ts - (i + 1)) (drop (i + 1) ts))) body true h))

  pub steps-at : (ts : List Tree) (i : ℕ) (t : Tree) → i < length ts → t ≡ get_or ts i t → is_stuck (trees (take i ts)) t (trees (take (length ts - (i + 1)) (drop (i + 1) ts))) body ≡ false →
      rest_may_move (trees (take i ts)) (drop i ts) ≡ rest_may_move (trees (take (i + 1) ts)) (drop (i + 1) ts)
  steps-at ts i t l e h =
      rw (add-one i) (steps-onto empty ts i t l e (rw (← add-one i, ← rest_of ts (i + 1)) (as-asked (trees (take i ts)) t (trees (take (length ts - (i + 1)) (drop (i + 1) ts))) body false h)))

  -- no parameter is left
  pub none-left : (a : Trees) (ts : List Tree) (i : ℕ) → length ts ≤ i → rest_may_move a (drop i ts) ≡ true
  none-left a [] zero l = refl
  none-left a [] (suc i) l = refl
  none-left a (t ∷ ts) zero l = absurd (omega (arith, l))
  none-left a (t ∷ ts) (suc i) l = none-left a ts i (omega (arith, l))
