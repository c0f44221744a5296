-- Texts that are no helper's module, since a path has a slash.
use Rattle.std.proofs.Common.{◌≡◌, refl, ap, [], ◌∷◌, ◌++◌}
use Rattle.std.proofs.lemmas.Bool.{and_parts}
use Rattle.std.specs.Prelude.{◌&&◌, Bool, true, false, not, Option, Some, None, codes, if◌then◌else◌, is_some, nat_eq, ℕ}
use Rattle.es_tree.specs.Words.{Text}
use Rattle.es_statement_runs.specs.Helpers.{helper_in, if_helper, without_prefix}

abbrev has_no : ℕ → Text → Bool
has_no c [] = true
has_no c (d ∷ ds) = not (nat_eq c d) && has_no c ds

other : (b : Bool) → not b ≡ true → b ≡ false
other true h = absurd (cc h)
other false h = refl

-- a text without this character doesn't begin with one that has it
unbegun : (c : ℕ) (m cs t : Text) → has_no c t ≡ true → without_prefix (m ++ c ∷ cs) t ≡ None
unbegun c [] cs [] h = refl
unbegun c [] cs (e ∷ es) h = ap (λ (b : Bool). if b then without_prefix cs es else None) (other (nat_eq c e) (and_parts (not (nat_eq c e)) (has_no c es) h).0)
unbegun c (d ∷ ds) cs [] h = refl
unbegun c (d ∷ ds) cs (e ∷ es) h = at (nat_eq d e) (unbegun c ds cs es (and_parts (not (nat_eq c e)) (has_no c es) h).1)
  where
    at : (b : Bool) → without_prefix (ds ++ c ∷ cs) es ≡ None → (if b then without_prefix (ds ++ c ∷ cs) es else None) ≡ None
    at true g = g
    at false g = refl

pub no_path : (m t : Text) → has_no 47 t ≡ true → helper_in m t ≡ None
no_path m t h = ap if_helper (unbegun 47 m (codes "helpers/") t h)

pub none_so : (o : Option Text) → not (is_some o) ≡ true → o ≡ None
none_so None h = refl
none_so (Some t) h = absurd (cc h)
