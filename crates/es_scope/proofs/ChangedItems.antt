-- A list with one item changed, by its numbers.
use Rattle.std.proofs.Common.{◌≡◌, ℕ, zero, suc, ◌<◌, ◌==◌, ◌&&◌, Bool, true, false, cond, if◌then◌else◌, Option, Some, List, [], ◌∷◌, ◌++◌, length, take, drop, get_or, set, slice_get, option_map, option_and_then, bytes_eq, refl, sym, ap, ◌∙◌, arith}
use Rattle.std.proofs.lemmas.Bool.{eqb-true, eqb-false}
use Rattle.std.proofs.lemmas.Option.{slice_get_read}
use Rattle.std.proofs.Math.Seq.{take-append_seam}
use Rattle.es_tree.specs.Heads.{scope, symbol}
use Rattle.es_tree.specs.Words.{Text}
use Rattle.es_tree.specs.declared.ids.SymbolId.{SymbolId}
use Rattle.es_scope.specs.Bindings.{bound_in}
use Rattle.es_scope.specs.Numbers.{numbers}
use Rattle.es_scope.specs.Outwards.{SameShape}
use Rattle.es_scope.specs.TableChanges.{with_item}
use Rattle.es_scope.specs.declared.scoping.Scope.{Scope}

pub get_changed : {X : Type 0} (xs : List X) (i : ℕ) (y : X) (n : ℕ) → i < length xs → n ≡ i → slice_get (set xs i y) n ≡ Some y
get_changed [] i y n l e = absurd (omega (arith, l))
get_changed (x ∷ xs) zero y zero l e = refl
get_changed (x ∷ xs) zero y (suc n) l e = absurd (omega (arith, e))
get_changed (x ∷ xs) (suc i) y zero l e = absurd (omega (arith, e))
get_changed (x ∷ xs) (suc i) y (suc n) l e = get_changed xs i y n (omega (arith, l)) (omega (arith, e))

pub get_other : {X : Type 0} (xs : List X) (i : ℕ) (y : X) (n : ℕ) → (n ≡ i → ⊥) → slice_get (set xs i y) n ≡ slice_get xs n
get_other [] i y n h = refl
get_other (x ∷ xs) zero y zero h = absurd (h refl)
get_other (x ∷ xs) zero y (suc n) h = refl
get_other (x ∷ xs) (suc i) y zero h = refl
get_other (x ∷ xs) (suc i) y (suc n) h = get_other xs i y n (λ e. h (omega (arith, e)))

pub length_changed : {X : Type 0} (xs : List X) (i : ℕ) (y : X) → length (set xs i y) ≡ length xs
length_changed [] i y = refl
length_changed (x ∷ xs) zero y = refl
length_changed (x ∷ xs) (suc i) y = omega (arith, length_changed xs i y)

-- what is said of each item, where the same is said of the changed one
pub said_same : {X B : Type 0} (f : Option X → B) (xs : List X) (i : ℕ) (c d : X) (n : ℕ) → i < length xs → d ≡ get_or xs i d → f (Some c) ≡ f (Some d) → f (slice_get (set xs i c) n) ≡ f (slice_get xs n)
said_same f xs i c d n l e h = at (n == i) refl where
  at : (b : Bool) → (n == i) ≡ b → f (slice_get (set xs i c) n) ≡ f (slice_get xs n)
  at true g =
      let here = eqb-true n i g in
      ap f (get_changed xs i c n l here) ∙ (h ∙ ap f (sym (ap (slice_get xs) here ∙ slice_get_read xs (length xs) i d refl l e)))
  at false g = ap f (get_other xs i c n (eqb-false n i g))

-- and where this is said of the changed one
pub said_set : {X B : Type 0} (f : Option X → Option B) (xs : List X) (i : ℕ) (c : X) (z : B) (n : ℕ) → i < length xs → f (Some c) ≡ Some z → f (slice_get (set xs i c) n) ≡ with_item i z (λ m. f (slice_get xs m)) n
said_set f xs i c z n l e = at (n == i) refl where
  at : (b : Bool) → (n == i) ≡ b → f (slice_get (set xs i c) n) ≡ (if b then Some z else f (slice_get xs n))
  at true g = ap f (get_changed xs i c n l (eqb-true n i g)) ∙ e
  at false g = ap f (get_other xs i c n (eqb-false n i g))

pub shape_changed : (xs : List Scope) (i : ℕ) (c d : Scope) → i < length xs → d ≡ get_or xs i d → c.parent ≡ d.parent → c.flags ≡ d.flags → SameShape xs (set xs i c)
shape_changed xs i c d l e p f = record {
  count = length_changed xs i c;
  parents = λ n. said_same (λ o. option_and_then (λ k. scope k.parent) o) xs i c d n l e (ap scope p);
  flags = λ n. said_same (λ o. option_map (λ k. k.flags) o) xs i c d n l e (ap Some f);
}

-- the bindings, where a scope binds one name otherwise
pub bound_changed : (xs : List Scope) (i : ℕ) (c d : Scope) (name : Text) (value : Option ℕ) → i < length xs → d ≡ get_or xs i d → ((x : Text) → numbers c.bindings x ≡ (if bytes_eq name x then value else numbers d.bindings x)) →
    (n : ℕ) (x : Text) → bound_in (set xs i c) n x ≡ (if n == i && bytes_eq name x then value else bound_in xs n x)
bound_changed xs i c d name value l e h n x = at (n == i) refl where
  at : (b : Bool) → (n == i) ≡ b → bound_in (set xs i c) n x ≡ (if b && bytes_eq name x then value else bound_in xs n x)
  at true g =
      let here = eqb-true n i g in
      let before : bound_in xs n x ≡ numbers d.bindings x = ap (λ o. option_and_then (λ k. numbers k.bindings x) o) (ap (slice_get xs) here ∙ slice_get_read xs (length xs) i d refl l e) in
      ap (λ o. option_and_then (λ k. numbers k.bindings x) o) (get_changed xs i c n l here) ∙ (h x ∙ ap (λ o. if bytes_eq name x then value else o) (sym before))
  at false g = ap (λ o. option_and_then (λ k. numbers k.bindings x) o) (get_other xs i c n (eqb-false n i g))

-- A PART OF A LIST WRITTEN BACK

-- a vector whose slice was lent, and ended as new
pub written_back : {X : Type 0} (new old : List X) (n : ℕ) → n ≡ length new → take n (new ++ drop (length new) old) ≡ new
written_back new old n e = ap (λ k. take k (new ++ drop (length new) old)) e ∙ take-append_seam new (drop (length new) old)

-- THE NUMBER OF A SYMBOL

-- a choice of symbols, by their numbers
pub symbol-cond : (b : Bool) (o q : Option SymbolId) → symbol (cond b o q) ≡ cond b (symbol o) (symbol q)
symbol-cond true o q = refl
symbol-cond false o q = refl
