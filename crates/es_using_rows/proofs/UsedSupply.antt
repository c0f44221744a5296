-- The fresh names of a program, of which each step takes the next for its context, with two symbols: that of the context, and that of the
-- parameter of its `catch`.
use Rattle.std.proofs.Common.{◌≡◌, ◌∙◌, ◌<◌, ℕ, zero, suc, refl, sym, ap, arith, subst, length, List, [], ◌∷◌, ◌++◌}
use Rattle.std.specs.Prelude.{Bool, true, false, ◌+◌, ◌*◌, ◌||◌, Some, bytes_eq, codes}
use Rattle.std.proofs.lemmas.Bool.{or_left}
use Rattle.es_tree.specs.Fresh.{IsFreshName, also, candidate, text_base}
use Rattle.es_tree.specs.Words.{Text}
use Rattle.es_steps.specs.CoreBridge.{names_among}
use Rattle.es_steps.specs.Rules.{next_name}
use Rattle.es_steps.specs.Steps.{Whole}
use Rattle.es_steps.specs.UsingBlocks.{error_name, error_of, with_context}
use Rattle.es_pattern_moves.specs.Moved.{name_of}
use Rattle.es_pattern_moves.proofs.MovedSupply.{beyond, made-more, more-of, next-of, up_to}
use Rattle.es_using_rows.specs.Used.{AreFresh, context_bound, error_bound}

-- NAMES IN USE matter where they are candidates, and `_` is none

abbrev context_base : Text
context_base = text_base (codes "usingCtx")

abbrev AlikeOn : (Text → Bool) → (Text → Bool) → Type 0
AlikeOn f g = (m : ℕ) → g (candidate context_base m) ≡ f (candidate context_base m)

fresh-name : (f g : Text → Bool) (x : Text) → AlikeOn f g → IsFreshName f context_base x → IsFreshName g context_base x
fresh-name f g x alike h = record { number = h.number; name = h.name; free = ap g h.name ∙ alike h.number ∙ sym (ap f h.name) ∙ h.free; first = λ m lt. alike m ∙ h.first m lt }

fresh-alike : (f g : Text → Bool) (xs : List Text) → AlikeOn f g → AreFresh f xs → AreFresh g xs
fresh-alike f g [] alike h = tt
fresh-alike f g (x ∷ xs) alike h = (fresh-name f g x alike h.0, fresh-alike (also x f) (also x g) xs (λ m i. alike m i || bytes_eq x (candidate context_base m)) h.1)

no-error : (m : ℕ) → bytes_eq error_name (candidate context_base m) ≡ false
no-error zero = refl
no-error (suc m) = refl

or-false : (a : Bool) → (a || false) ≡ a
or-false true = refl
or-false false = refl

module _ (names : List Text) (first : ℕ) where
  -- WHERE names from this number on are to be had, and all those before are made
  pub record At (w : Whole) (n : ℕ) : Type 0 where
    pub fresh : AreFresh w.in_use (beyond n names)
    pub symbol : w.free_symbol ≡ first + 2 * n
    pub made : names_among w.made ≡ up_to n names
    pub helpers : w.in_use (codes "babelHelpers") ≡ true

  abbrev pub taking : Whole → ℕ → Whole
  taking w n = with_context (name_of names n) w

  module _ (w : Whole) (n : ℕ) (here : At w n) (lt : n < length names) where
    both : AreFresh w.in_use (name_of names n ∷ beyond (suc n) names)
    both = subst (λ (xs : List Text). AreFresh w.in_use xs) (next-of n names lt) here.fresh

    pub is-fresh : IsFreshName w.in_use (text_base (codes "usingCtx")) (name_of names n)
    is-fresh = both.0

    pub is-context : next_name w (name_of names n) ≡ context_bound names first n
    is-context = λ i. record { name = name_of names n; symbol = Some (here.symbol i) }

    pub is-error : error_of w ≡ error_bound first n
    is-error = λ i. record { name = error_name; symbol = Some (here.symbol i + 1) }

    pub at-next : At (taking w n) (suc n)
    at-next = record {
      fresh = fresh-alike (also (name_of names n) w.in_use) (taking w n).in_use (beyond (suc n) names) (λ m. ap (λ b. (w.in_use (candidate context_base m) || bytes_eq (name_of names n) (candidate context_base m)) || b) (no-error m) ∙ or-false _) both.1;
      symbol = omega (arith, here.symbol);
      made = made-more w.made (next_name w (name_of names n)) ∙ ap (λ xs. xs ++ (name_of names n ∷ [])) here.made ∙ more-of n names lt;
      helpers = or_left _ _ (or_left _ _ here.helpers);
    }
