-- The names of a module: each by its number, and that they are fresh.
use Rattle.std.proofs.Common.{◌≡◌, ◌∙◌, ◌<◌, ◌≤◌, Bool, Global, List, [], ◌∷◌, ap, arith, get_or, length, map, refl, string_bytes, subst, sym, ℕ}
use Rattle.std.specs.Prelude.{◌||◌, String, bytes_eq, codes, false, true, zero, suc}
use Rattle.es_tree.specs.Fresh.{also, text_base}
use Rattle.es_tree.specs.Tree.{Tree}
use Rattle.es_tree.specs.Words.{Text}
use Rattle.es_pattern_moves.specs.Moved.{name_of}
use Rattle.es_using_modules.specs.ModuleTops.{AreFresh, TopsTo, context_name, has_default, topped}
use Rattle.lower_using_modules.specs.Parts.{making}
use Rattle.lower_fresh_names.proofs.Walks.{same-fresh}

pub name-found : (xs : List (String Global)) (i : ℕ) (x : String Global) → i < length xs → x ≡ get_or xs i x → name_of (map string_bytes xs) i ≡ string_bytes x
name-found [] i x l e = absurd (omega (arith, l))
name-found (y ∷ xs) zero x l e = ap string_bytes (sym e)
name-found (y ∷ xs) (suc i) x l e = name-found xs i x (omega (arith, l)) e

pub name-missing : (xs : List (String Global)) (i : ℕ) → length xs ≤ i → name_of (map string_bytes xs) i ≡ []
name-missing [] i h = refl
name-missing (y ∷ xs) zero h = absurd (omega (arith, h))
name-missing (y ∷ xs) (suc i) h = name-missing xs i (omega (arith, h))

pub fresh-by : (f g : Text → Bool) (b : Bool) (names : List Text) → ((y : Text) → f y ≡ g y) → AreFresh f b names → AreFresh g b names
fresh-by f g true (x ∷ c ∷ []) e h = (same-fresh f g (text_base (codes "default")) x e h.0, same-fresh (also x f) (also x g) (text_base (codes "usingCtx")) c (λ y. ap (λ b. b || bytes_eq x y) (e y)) h.1)
fresh-by f g false (c ∷ []) e h = same-fresh f g (text_base (codes "usingCtx")) c e h
fresh-by f g true [] e h = absurd h
fresh-by f g true (x ∷ []) e h = absurd h
fresh-by f g true (x ∷ c ∷ d ∷ names) e h = absurd h
fresh-by f g false [] e h = absurd h
fresh-by f g false (x ∷ c ∷ names) e h = absurd h

-- what a program becomes, with these names
pub tops-to : (in_use uses : Text → Bool) (p q : Tree) (names : List Text) (b : Bool) (x c : Text) → b ≡ has_default p → ((y : Text) → uses y ≡ in_use y) → AreFresh uses b names → x ≡ name_of names 0 → c ≡ context_name b names → q ≡ topped (making x c) p → TopsTo in_use p q names
tops-to in_use uses p q names b x c named same fresh first second is = record {
  fresh = subst (λ d. AreFresh in_use d names) named (fresh-by uses in_use b names same fresh);
  tree = is ∙ (ap (λ y. topped (making y c) p) first ∙ ap (λ y. topped (making (name_of names 0) y) p) (second ∙ ap (λ d. context_name d names) named));
}
