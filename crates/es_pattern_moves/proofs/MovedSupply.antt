-- The fresh names of a program, of which each step takes the next.
use Rattle.std.proofs.Common.{◌≡◌, ◌∙◌, ◌<◌, ℕ, zero, suc, refl, sym, ap, arith, subst, length, List, [], ◌∷◌, ◌++◌, true≢false}
use Rattle.std.specs.Prelude.{Bool, true, false, ◌+◌, Some, bytes_eq, codes}
use Rattle.std.proofs.lemmas.Bool.{false_from_ne_true, or_left}
use Rattle.es_tree.specs.Fresh.{IsFreshName}
use Rattle.es_tree.specs.Words.{Text}
use Rattle.es_resolution.specs.Declarations.{Bound}
use Rattle.es_steps.specs.CoreBridge.{names_among}
use Rattle.es_steps.specs.Rules.{next_name, with_made}
use Rattle.es_steps.specs.Steps.{Whole}
use Rattle.es_pattern_moves.specs.Moved.{AreFresh, name_of}

-- those from this number on, and those before it
abbrev pub beyond : ℕ → List Text → List Text
beyond zero xs = xs
beyond (suc n) [] = []
beyond (suc n) (x ∷ xs) = beyond n xs

abbrev pub up_to : ℕ → List Text → List Text
up_to zero xs = []
up_to (suc n) [] = []
up_to (suc n) (x ∷ xs) = x ∷ up_to n xs

pub next-of : (n : ℕ) (xs : List Text) → n < length xs → beyond n xs ≡ name_of xs n ∷ beyond (suc n) xs
next-of zero [] lt = absurd (omega (arith, lt))
next-of zero (x ∷ xs) lt = refl
next-of (suc n) [] lt = absurd (omega (arith, lt))
next-of (suc n) (x ∷ xs) lt = next-of n xs (omega (arith, lt))

pub more-of : (n : ℕ) (xs : List Text) → n < length xs → up_to n xs ++ (name_of xs n ∷ []) ≡ up_to (suc n) xs
more-of zero [] lt = absurd (omega (arith, lt))
more-of zero (x ∷ xs) lt = refl
more-of (suc n) [] lt = absurd (omega (arith, lt))
more-of (suc n) (x ∷ xs) lt = ap (λ ys. x ∷ ys) (more-of n xs (omega (arith, lt)))

pub all-of : (n : ℕ) (xs : List Text) → n ≡ length xs → up_to n xs ≡ xs
all-of zero [] e = refl
all-of zero (x ∷ xs) e = absurd (omega (arith, e))
all-of (suc n) [] e = absurd (omega (arith, e))
all-of (suc n) (x ∷ xs) e = ap (λ ys. x ∷ ys) (all-of n xs (omega (arith, e)))

pub made-more : (bs : List Bound) (b : Bound) → names_among (bs ++ (b ∷ [])) ≡ names_among bs ++ (b.name ∷ [])
made-more [] b = refl
made-more (c ∷ bs) b = ap (λ xs. c.name ∷ xs) (made-more bs b)

module _ (names : List Text) (first : ℕ) (base : Text → Bool) where
  -- the name of this number, with its symbol
  abbrev pub bound : ℕ → Bound
  bound n = record { name = name_of names n; symbol = Some (first + n) }

  -- WHERE names from this number on are to be had, and all those before are made
  pub record At (w : Whole) (n : ℕ) : Type 0 where
    pub fresh : AreFresh w.in_use (beyond n names)
    pub symbol : w.free_symbol ≡ first + n
    pub made : names_among w.made ≡ up_to n names
    pub used : (x : Text) → base x ≡ true → w.in_use x ≡ true

  abbrev pub taking : Whole → ℕ → Whole
  taking w n = with_made (next_name w (name_of names n) ∷ []) w

  module _ (w : Whole) (n : ℕ) (here : At w n) (lt : n < length names) where
    both : AreFresh w.in_use (name_of names n ∷ beyond (suc n) names)
    both = subst (λ (xs : List Text). AreFresh w.in_use xs) (next-of n names lt) here.fresh

    pub is-fresh : IsFreshName w.in_use (codes "ref") (name_of names n)
    is-fresh = both.0

    pub is-bound : next_name w (name_of names n) ≡ bound n
    is-bound = λ i. record { name = name_of names n; symbol = Some (here.symbol i) }

    -- no name of the source
    pub is-new : base (name_of names n) ≡ false
    is-new = false_from_ne_true (base (name_of names n)) (λ e. true≢false (sym (here.used (name_of names n) e) ∙ is-fresh.free))

    pub at-next : At (taking w n) (suc n)
    at-next = record {
      fresh = both.1;
      symbol = omega (arith, here.symbol);
      made = made-more w.made (next_name w (name_of names n)) ∙ ap (λ xs. xs ++ (name_of names n ∷ [])) here.made ∙ more-of n names lt;
      used = λ x e. or_left (w.in_use x) (bytes_eq (name_of names n) x) (here.used x e);
    }
