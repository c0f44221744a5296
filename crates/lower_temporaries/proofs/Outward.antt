-- Searches outwards through the ancestors of a context, one after the other.
use Rattle.std.proofs.Common.{◌≡◌, ℕ, suc, zero, List, [], ◌∷◌, Some, None, refl, drop, slice_get}
use Rattle.std.specs.Prelude.{Bool, true, false, ◌&&◌, ◌||◌}
use Rattle.es_scope.specs.declared.ancestor.Ancestor.{Ancestor}
use Rattle.lower_temporaries.specs.Outward.{reaches}

first-true : (a b : Bool) → a ≡ true → (a || b) ≡ true
first-true a b e = rw e refl

both-false : (a b c : Bool) → a ≡ false → b ≡ false → (a || (b && c)) ≡ false
both-false a b c e d = rw (e, d) refl

only-last : (a b c : Bool) → a ≡ false → b ≡ true → (a || (b && c)) ≡ c
only-last a b c e d = rw (e, d) refl

module _ (found passed : Ancestor → Bool) where
  -- one that was sought
  pub reaches-found : (xs : List Ancestor) (i : ℕ) (a : Ancestor) → Some a ≡ slice_get xs i → found a ≡ true → reaches found passed (drop i xs) ≡ true
  reaches-found [] zero a h e = absurd (cc h)
  reaches-found [] (suc i) a h e = absurd (cc h)
  reaches-found (x ∷ xs) zero a h e = let same : a ≡ x = cc in first-true (found x) _ (rw (← same) e)
  reaches-found (x ∷ xs) (suc i) a h e = reaches-found xs i a h e

  -- one that isn't passed
  pub reaches-left : (xs : List Ancestor) (i : ℕ) (a : Ancestor) → Some a ≡ slice_get xs i → found a ≡ false → passed a ≡ false → reaches found passed (drop i xs) ≡ false
  reaches-left [] zero a h e d = absurd (cc h)
  reaches-left [] (suc i) a h e d = absurd (cc h)
  reaches-left (x ∷ xs) zero a h e d = let same : a ≡ x = cc in both-false (found x) (passed x) (reaches found passed xs) (rw (← same) e) (rw (← same) d)
  reaches-left (x ∷ xs) (suc i) a h e d = reaches-left xs i a h e d

  -- one that is
  pub reaches-passed : (xs : List Ancestor) (i : ℕ) (a : Ancestor) → Some a ≡ slice_get xs i → found a ≡ false → passed a ≡ true → reaches found passed (drop i xs) ≡ reaches found passed (drop (suc i) xs)
  reaches-passed [] zero a h e d = absurd (cc h)
  reaches-passed [] (suc i) a h e d = absurd (cc h)
  reaches-passed (x ∷ xs) zero a h e d = let same : a ≡ x = cc in only-last (found x) (passed x) (reaches found passed xs) (rw (← same) e) (rw (← same) d)
  reaches-passed (x ∷ xs) (suc i) a h e d = reaches-passed xs i a h e d

  -- beyond the outermost one
  pub reaches-outside : (xs : List Ancestor) (i : ℕ) → None ≡ slice_get xs i → reaches found passed (drop i xs) ≡ false
  reaches-outside [] zero h = refl
  reaches-outside [] (suc i) h = refl
  reaches-outside (x ∷ xs) zero h = absurd (cc h)
  reaches-outside (x ∷ xs) (suc i) h = reaches-outside xs i h
