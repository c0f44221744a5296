-- A list whose items are visited one after the other.
use Rattle.std.proofs.Common.{◌≡◌, ◌≤◌, ◌<◌, ◌+◌, refl, arith, ◌∙◌, subst, ℕ, zero, suc, length, List, [], ◌∷◌, get_or, set, take, sum_by, length-set}
use Rattle.std.proofs.lemmas.List.Sums.{sum_by-cons}
use Rattle.es_tree.specs.declared.options.EnvOptions.{EnvOptions}
use Rattle.es_visit.specs.declared.hook.Hook.{Hook}
use Rattle.es_visit.specs.Counts.{Measure, nodes_of, places_of, all_hooks}
use Rattle.es_visit.specs.Calls.{Counted}

-- what these sums come to over those before i, with what is counted beside them
abbrev pub sum_so_far : {X : Type 0} → (Measure → X → ℕ) → (ℕ → ℕ → ℕ) → List X → ℕ → Measure → ℕ
sum_so_far sums beside xs i m = beside m.parameters i + sum_by (sums m) (take i xs)

-- Those before i are free, and the calls so far are those of the items before i.
pub record SoFar {X Y : Type 0} (suits : Y → EnvOptions → Type 0) (tally : Y → Hook → ℕ → ℕ) (entries : Y → Hook → ℕ) (o : EnvOptions) (free : X → Type 0) (sums : Measure → X → ℕ) (beside : ℕ → ℕ → ℕ) (first items : List X) (i : ℕ) (y z : Y) (m n : ℕ) : Type 0 where
  pub same_length : length items ≡ length first
  pub each : (k : ℕ) (d : X) → k < i → free (get_or items k d)
  pub calls : Counted suits tally entries o y z (sum_so_far sums beside items i)
  pub cost : n ≤ m + sum_so_far sums beside items i all_hooks

sum_take_suc : {X : Type 0} (f : X → ℕ) (xs : List X) (i : ℕ) (y : X) → i < length xs → sum_by f (take (suc i) (set xs i y)) ≡ sum_by f (take i xs) + f y
sum_take_suc f [] i y h = absurd (omega (arith, h))
sum_take_suc f (x ∷ xs) zero y h = omega (arith, sum_by-cons f y [])
sum_take_suc f (x ∷ xs) (suc i) y h = omega (arith, sum_take_suc f xs i y (omega (arith, h)), sum_by-cons f x (take (suc i) (set xs i y)), sum_by-cons f x (take i xs))

sum_take : {X : Type 0} (f : X → ℕ) (xs : List X) (i : ℕ) (y : X) → i < length xs → sum_by f (take (i + 1) (set xs i y)) ≡ sum_by f (take i xs) + f y
sum_take f xs i y h = let e : suc i ≡ i + 1 = omega arith in subst (λ n. sum_by f (take n (set xs i y)) ≡ sum_by f (take i xs) + f y) e (sum_take_suc f xs i y h)

each_set : {X : Type 0} (P : X → Type 0) (xs : List X) (i : ℕ) (y : X) → i < length xs → ((k : ℕ) (d : X) → k < i → P (get_or xs k d)) → P y → (k : ℕ) (d : X) → k < i + 1 → P (get_or (set xs i y) k d)
each_set P [] i y l h e k d m = absurd (omega (arith, l))
each_set P (x ∷ xs) zero y l h e zero d m = e
each_set P (x ∷ xs) zero y l h e (suc k) d m = absurd (omega (arith, m))
each_set P (x ∷ xs) (suc i) y l h e zero d m = h 0 d (omega arith)
each_set P (x ∷ xs) (suc i) y l h e (suc k) d m = each_set P xs i y (omega (arith, l)) (λ j b n. h (suc j) b (omega (arith, n))) e k d (omega (arith, m))

module _ {X Y : Type 0} {suits : Y → EnvOptions → Type 0} {tally : Y → Hook → ℕ → ℕ} {entries : Y → Hook → ℕ} {o : EnvOptions} {free : X → Type 0} {sums : Measure → X → ℕ} {beside : ℕ → ℕ → ℕ} where
  pub so_far_none : (xs : List X) (y : Y) (m : ℕ) → suits y o → SoFar suits tally entries o free sums beside xs xs 0 y y m m
  so_far_none xs y m s = record { same_length = refl; each = λ k d h. absurd (omega (arith, h)); calls = record { suits_still = s; exits = λ h j. omega arith; enters = λ h. omega arith }; cost = omega arith }

  pub so_far_more : {first items : List X} {i : ℕ} {y z w : Y} {m n r : ℕ} → SoFar suits tally entries o free sums beside first items i y z m n → (x : X) (extra : ℕ → ℕ) → i < length items → free x →
      Counted suits tally entries o z w (λ q. extra q.parameters + sums q x) → r ≤ n + (extra 2 + sums all_hooks x) → ((k : ℕ) → beside k i + extra k ≤ beside k (i + 1)) → SoFar suits tally entries o free sums beside first (set items i x) (i + 1) y w m r
  so_far_more {items = items} {i = i} h x extra l f c e g = record {
    same_length = length-set items i x ∙ h.same_length;
    each = each_set free items i x l h.each f;
    calls = record {
      suits_still = c.suits_still;
      exits = λ q j. omega (arith, h.calls.exits q j, c.exits q j, g 0, sum_take (sums (nodes_of j)) items i x l);
      enters = λ q. omega (arith, h.calls.enters q, c.enters q, g (places_of q).parameters, sum_take (sums (places_of q)) items i x l);
    };
    cost = omega (arith, h.cost, e, g 2, sum_take (sums all_hooks) items i x l);
  }
