-- A list with one item more, by its numbers.
use Rattle.std.proofs.Common.{◌≡◌, ℕ, zero, suc, ◌<◌, ◌==◌, Bool, true, false, if◌then◌else◌, Option, Some, None, List, [], ◌∷◌, ◌++◌, length, option_map, slice_get, refl, sym, ap, ◌∙◌, arith}
use Rattle.std.proofs.lemmas.Bool.{eqb-true, eqb-false}
use Rattle.std.proofs.lemmas.Option.{slice_get_past}
use Rattle.es_scope.specs.TableChanges.{with_last}

pub get_last : {X : Type 0} (xs : List X) (y : X) (n : ℕ) → n ≡ length xs → slice_get (xs ++ y ∷ []) n ≡ Some y
get_last [] y zero e = refl
get_last [] y (suc n) e = absurd (omega (arith, e))
get_last (x ∷ xs) y zero e = absurd (omega (arith, e))
get_last (x ∷ xs) y (suc n) e = get_last xs y n (omega (arith, e))

get_before : {X : Type 0} (xs : List X) (y : X) (n : ℕ) → (n ≡ length xs → ⊥) → slice_get (xs ++ y ∷ []) n ≡ slice_get xs n
get_before [] y zero e = absurd (e refl)
get_before [] y (suc n) e = refl
get_before (x ∷ xs) y zero e = refl
get_before (x ∷ xs) y (suc n) e = get_before xs y n (λ f. e (omega (arith, f)))

-- an item that is there stays with one item more
pub get_kept : {X : Type 0} (xs : List X) (y z : X) (n : ℕ) → slice_get xs n ≡ Some z → slice_get (xs ++ y ∷ []) n ≡ Some z
get_kept [] y z n e = absurd (cc)
get_kept (x ∷ xs) y z zero e = e
get_kept (x ∷ xs) y z (suc n) e = get_kept xs y z n e

pub slice_get-last : {X : Type 0} (xs : List X) (y : X) (n : ℕ) → slice_get (xs ++ y ∷ []) n ≡ with_last (length xs) y (slice_get xs) n
slice_get-last xs y n = at (n == length xs) refl where
  at : (b : Bool) → (n == length xs) ≡ b → slice_get (xs ++ y ∷ []) n ≡ (if b then Some y else slice_get xs n)
  at true e = get_last xs y n (eqb-true n (length xs) e)
  at false e = get_before xs y n (eqb-false n (length xs) e)

pub choice : {A B : Type 0} (f : A → B) (b : Bool) (p q : A) → f (if b then p else q) ≡ (if b then f p else f q)
choice f true p q = refl
choice f false p q = refl

-- what is said of an item is said of one that is there
pub said_within : {X B : Type 0} (f : X → B) (xs : List X) (n : ℕ) (z : B) → option_map f (slice_get xs n) ≡ Some z → n < length xs
said_within f [] n z e = absurd (cc)
said_within f (x ∷ xs) zero z e = omega arith
said_within f (x ∷ xs) (suc n) z e = omega (arith, said_within f xs n z e)

-- what is said of each item, with one more
pub with_last-map : {X B : Type 0} (f : Option X → Option B) (xs : List X) (y : X) (z : B) (n : ℕ) → f (Some y) ≡ Some z → f (slice_get (xs ++ y ∷ []) n) ≡ with_last (length xs) z (λ m. f (slice_get xs m)) n
with_last-map f xs y z n e =
    ap f (slice_get-last xs y n) ∙ (choice f (n == length xs) (Some y) (slice_get xs n) ∙ ap (λ o. if n == length xs then o else f (slice_get xs n)) e)

-- an item of which the same is said as of none changes nothing
pub unsaid_last : {X B : Type 0} (f : Option X → B) (xs : List X) (y : X) (n : ℕ) → f (Some y) ≡ f None → f (slice_get (xs ++ y ∷ []) n) ≡ f (slice_get xs n)
unsaid_last f xs y n e = at (n == length xs) refl where
  at : (b : Bool) → (n == length xs) ≡ b → f (slice_get (xs ++ y ∷ []) n) ≡ f (slice_get xs n)
  at true g = let last = eqb-true n (length xs) g in ap f (get_last xs y n last) ∙ (e ∙ ap f (sym (slice_get_past xs n (omega (arith, last)))))
  at false g = ap f (get_before xs y n (eqb-false n (length xs) g))
