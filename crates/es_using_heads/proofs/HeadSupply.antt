-- The fresh names of a program, of which each step takes the next.
use Rattle.std.proofs.Common.{◌≡◌, ◌∙◌, ◌<◌, ℕ, suc, sym, ap, arith, subst, length, List, [], ◌∷◌, ◌++◌}
use Rattle.std.specs.Prelude.{Bool, ◌+◌, Some}
use Rattle.es_tree.specs.Fresh.{IsFreshName, also}
use Rattle.es_tree.specs.Words.{Text}
use Rattle.es_steps.specs.CoreBridge.{names_among}
use Rattle.es_steps.specs.Rules.{next_name}
use Rattle.es_steps.specs.Steps.{Whole}
use Rattle.es_pattern_moves.specs.Moved.{name_of}
use Rattle.es_pattern_moves.proofs.MovedSupply.{bound, made-more, more-of, taking, up_to}
use Rattle.es_using_heads.specs.Heads.{with_first}

module _ (names : List Text) (first : ℕ) (base : Text → Bool) where
  -- WHERE names from this number on are to be had, and all those before are made
  pub record At (w : Whole) (n : ℕ) : Type 0 where
    pub in_use : w.in_use ≡ with_first names n base
    pub symbol : w.free_symbol ≡ first + n
    pub made : names_among w.made ≡ up_to n names

  module _ (w : Whole) (n : ℕ) (here : At w n) where
    pub is-fresh : (z : Text) → IsFreshName (with_first names n base) z (name_of names n) → IsFreshName w.in_use z (name_of names n)
    is-fresh z fresh = subst (λ (u : Text → Bool). IsFreshName u z (name_of names n)) (sym here.in_use) fresh

    pub is-bound : next_name w (name_of names n) ≡ bound names first base n
    is-bound = λ i. record { name = name_of names n; symbol = Some (here.symbol i) }

    pub at-next : n < length names → At (taking names first base w n) (suc n)
    at-next lt = record {
      in_use = λ i. also (name_of names n) (here.in_use i);
      symbol = omega (arith, here.symbol);
      made = made-more w.made (next_name w (name_of names n)) ∙ ap (λ xs. xs ++ (name_of names n ∷ [])) here.made ∙ more-of n names lt;
    }
