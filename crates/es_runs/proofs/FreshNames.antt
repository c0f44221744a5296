-- Names that are fresh in turn: none is in use, nor `Math`, and they are the only ones that are in use more.
use Rattle.std.proofs.Common.{◌≡◌, ℕ, zero, suc, refl, sym, subst, ◌∙◌, List, [], ◌∷◌, ◌++◌}
use Rattle.std.specs.Prelude.{Bool, true, false, ◌||◌, bytes_eq, codes}
use Rattle.es_tree.specs.Words.{Text}
use Rattle.es_tree.specs.Fresh.{IsFreshName, candidate, also}
use Rattle.es_runs.specs.NullishCoalescing.{also_all}
use Rattle.es_runs.proofs.CoreRows.{FreshInTurn}
use Rattle.es_runs.proofs.CoreRows.FreshInTurn.{no_more, one_more}
use Rattle.es_runs.proofs.Named.{or_both, or_first, or_second}
use Rattle.es_runs.proofs.Temporary.{bytes_eq-equal, bytes_eq-flip}
use Rattle.es_runs.proofs.Written.{one_of}

-- a candidate begins with `_`
candidate_not_math : (b : Text) (n : ℕ) → bytes_eq (codes "Math") (candidate b n) ≡ false
candidate_not_math b zero = refl
candidate_not_math b (suc n) = refl

pub not_math : (in_use : Text → Bool) (base x : Text) → IsFreshName in_use base x → bytes_eq (codes "Math") x ≡ false
not_math in_use base x fresh = rw fresh.name (candidate_not_math base fresh.number)

pub fresh_one : (in_use : Text → Bool) (base x : Text) → IsFreshName in_use base x → FreshInTurn in_use (x ∷ [])
fresh_one in_use base x h = one_more h.free (not_math in_use base x h) no_more

pub fresh_both : {in_use : Text → Bool} {xs ys : List Text} → FreshInTurn in_use xs → FreshInTurn (also_all xs in_use) ys → FreshInTurn in_use (xs ++ ys)
fresh_both no_more g = g
fresh_both (one_more free math h) g = one_more free math (fresh_both h g)

or_true : (a b : Bool) → a ≡ true → (a || b) ≡ true
or_true a b e = rw e

-- names in use stay so
pub used_after : (xs : List Text) (in_use : Text → Bool) (y : Text) → in_use y ≡ true → also_all xs in_use y ≡ true
used_after [] in_use y e = e
used_after (x ∷ xs) in_use y e = used_after xs (also x in_use) y (or_true (in_use y) (bytes_eq x y) e)

pub free_before : (xs : List Text) (in_use : Text → Bool) (y : Text) → also_all xs in_use y ≡ false → in_use y ≡ false
free_before [] in_use y e = e
free_before (x ∷ xs) in_use y e = or_first (in_use y) (bytes_eq x y) (free_before xs (also x in_use) y e)

-- a name that isn't in use afterwards isn't one of those taken
pub not_taken : (xs : List Text) (in_use : Text → Bool) (y : Text) → also_all xs in_use y ≡ false → one_of xs y ≡ false
not_taken [] in_use y e = refl
not_taken (x ∷ xs) in_use y e = or_both (bytes_eq y x) (one_of xs y) (bytes_eq-flip y x ∙ or_second (in_use y) (bytes_eq x y) (free_before xs (also x in_use) y e)) (not_taken xs (also x in_use) y e)

pub fresh_free : {in_use : Text → Bool} {xs : List Text} → FreshInTurn in_use xs → (y : Text) → one_of xs y ≡ true → in_use y ≡ false
fresh_free no_more y e = absurd (cc e)
fresh_free (one_more {in_use = in_use} {x = x} {xs = xs} free math rest) y e = at (λ d. fresh_free rest y d) (bytes_eq y x) refl
  where
    at : (one_of xs y ≡ true → also x in_use y ≡ false) → (b : Bool) → bytes_eq y x ≡ b → in_use y ≡ false
    at later true d = let same : y ≡ x = bytes_eq-equal y x d in rw same free
    at later false d = or_first (in_use y) (bytes_eq x y) (later (rw d at e))

pub fresh_unused : {in_use : Text → Bool} {xs : List Text} → FreshInTurn in_use xs → (y : Text) → in_use y ≡ true → one_of xs y ≡ false
fresh_unused {in_use} {xs} h y e = at (one_of xs y) refl
  where
    at : (b : Bool) → one_of xs y ≡ b → b ≡ false
    at false d = refl
    at true d = absurd (cc (fresh_free h y d, e))

pub fresh_not_math : {in_use : Text → Bool} {xs : List Text} → FreshInTurn in_use xs → one_of xs (codes "Math") ≡ false
fresh_not_math no_more = refl
fresh_not_math (one_more {x = x} {xs = xs} free math rest) = or_both (bytes_eq (codes "Math") x) (one_of xs (codes "Math")) math (fresh_not_math rest)

pub fresh_other : {in_use : Text → Bool} {xs : List Text} → FreshInTurn in_use xs → (y : Text) → one_of xs y ≡ true → bytes_eq (codes "Math") y ≡ false
fresh_other {in_use} {xs} h y e = at (bytes_eq (codes "Math") y) refl
  where
    at : (b : Bool) → bytes_eq (codes "Math") y ≡ b → b ≡ false
    at false d = refl
    at true d = let same : codes "Math" ≡ y = bytes_eq-equal (codes "Math") y d in let k : one_of xs (codes "Math") ≡ true = subst (λ z. one_of xs z ≡ true) (sym same) e in absurd (cc (k, fresh_not_math h))
