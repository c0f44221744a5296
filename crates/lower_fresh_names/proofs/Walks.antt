-- What a part becomes: with no name, with one, as a part of more, and one after the other.
use Rattle.std.proofs.Common.{◌≡◌, ◌∙◌, ◌++◌, ◌∷◌, Bool, List, [], add-one, ap, append-nil, append_assoc, length, refl, subst, suc, sym, ℕ}
use Rattle.std.specs.Prelude.{◌||◌, bytes_eq}
use Rattle.std.proofs.lemmas.List.{length-append}
use Rattle.es_tree.specs.Fresh.{IsFreshName, also, candidate}
use Rattle.es_tree.specs.Words.{Text}
use Rattle.es_scope.specs.Uids.{made, uses}
use Rattle.es_scope.specs.declared.uids.UidGenerator.{UidGenerator}
use Rattle.lower_fresh_names.specs.Walks.{BeginsWith, WalksAs, name_at, with_names}

-- NAMES

-- one that is fresh where these names are in use
pub same-fresh : (f g : Text → Bool) (base x : Text) → ((y : Text) → f y ≡ g y) → IsFreshName f base x → IsFreshName g base x
same-fresh f g base x e h = record {
  number = h.number;
  name = h.name;
  free = sym (e x) ∙ h.free;
  first = λ m l. sym (e (candidate base m)) ∙ h.first m l;
}

-- a list that begins with the names made by the end begins with those made before
begins-before : (a b : UidGenerator) (names all : List Text) → made b ≡ made a ++ names → BeginsWith (made b) all → BeginsWith (made a) all
begins-before a b names all m s = (names ++ s.0, s.1 ∙ (ap (λ ns. ns ++ s.0) m ∙ append_assoc (made a) names s.0))

name-behind : (xs ys : List Text) (x : Text) → name_at (xs ++ (x ∷ ys)) (length xs) ≡ x
name-behind [] ys x = refl
name-behind (y ∷ xs) ys x = name-behind xs ys x

-- the name made next has the number of those made before
name-next : (a b : UidGenerator) (x : Text) (all : List Text) → made b ≡ made a ++ x ∷ [] → BeginsWith (made b) all → name_at all (length (made a)) ≡ x
name-next a b x all m s =
    let is : all ≡ made a ++ (x ∷ s.0) = s.1 ∙ (ap (λ ns. ns ++ s.0) m ∙ append_assoc (made a) (x ∷ []) s.0) in
    ap (λ ns. name_at ns (length (made a))) is ∙ name-behind (made a) s.0 x

one-more : (a b : UidGenerator) (x : Text) → made b ≡ made a ++ x ∷ [] → suc (length (made a)) ≡ length (made b)
one-more a b x m = sym (ap length m ∙ (length-append (made a) (x ∷ []) ∙ add-one (length (made a))))

-- WHAT A PART BECOMES

-- nothing else
pub walks-none : {X Y : Type 0} (f : List Text → ℕ → X → ℕ × Y) (F : (Text → Bool) → List Text → ℕ → X → Type 0) (a : UidGenerator) (x : X) (y : Y) → ((all : List Text) (n : ℕ) → f all n x ≡ (n, y)) → ((in_use : Text → Bool) (all : List Text) (n : ℕ) → F in_use all n x) → WalksAs f F a a x y
walks-none f F a x y e p = record {
  names = [];
  made_is = sym (append-nil (made a));
  used = λ in_use all s u. u;
  becomes = λ all s. e all (length (made a));
  are_fresh = λ in_use all s u. p in_use all (length (made a));
}

-- with one name
pub walks-one : {X Y : Type 0} (f : List Text → ℕ → X → ℕ × Y) (F : (Text → Bool) → List Text → ℕ → X → Type 0) (a b : UidGenerator) (base t : Text) (x : X) (y : Y) → IsFreshName (uses a) base t → ((z : Text) → uses b z ≡ also t (uses a) z) → made b ≡ made a ++ t ∷ [] →
    ((all : List Text) (n : ℕ) → name_at all n ≡ t → f all n x ≡ (suc n, y)) → ((in_use : Text → Bool) (all : List Text) (n : ℕ) → name_at all n ≡ t → IsFreshName (with_names all n in_use) base t → F in_use all n x) → WalksAs f F a b x y
walks-one f F a b base t x y h taken m e p = record {
  names = t ∷ [];
  made_is = m;
  used = λ in_use all s u z.
      taken z ∙ (ap (λ v. v || bytes_eq t z) (u z) ∙ (ap (λ v. with_names all (length (made a)) in_use z || bytes_eq v z) (sym (name-next a b t all m s)) ∙ ap (λ n. with_names all n in_use z) (one-more a b t m)));
  becomes = λ all s. e all (length (made a)) (name-next a b t all m s) ∙ ap (λ n. (n, y)) (one-more a b t m);
  are_fresh = λ in_use all s u. p in_use all (length (made a)) (name-next a b t all m s) (same-fresh (uses a) (with_names all (length (made a)) in_use) base t u h);
}

-- as a part of more
pub walks-part : {X Y Z W : Type 0} (f : List Text → ℕ → X → ℕ × Y) (F : (Text → Bool) → List Text → ℕ → X → Type 0) (g : List Text → ℕ → Z → ℕ × W) (G : (Text → Bool) → List Text → ℕ → Z → Type 0) (h : Y → W) {a b : UidGenerator} {x : X} {y : Y} (z : Z) →
    ((all : List Text) (n : ℕ) → g all n z ≡ ((f all n x).0, h (f all n x).1)) → ((in_use : Text → Bool) (all : List Text) (n : ℕ) → F in_use all n x → G in_use all n z) → WalksAs f F a b x y → WalksAs g G a b z (h y)
walks-part f F g G h {a} {b} {x} {y} z e p s = record {
  names = s.names;
  made_is = s.made_is;
  used = s.used;
  becomes = λ all l. e all (length (made a)) ∙ ap (λ r. (r.0, h r.1)) (s.becomes all l);
  are_fresh = λ in_use all l u. p in_use all (length (made a)) (s.are_fresh in_use all l u);
}

-- first a part, and then the whole
pub walks-through : {X Y Z W V : Type 0} (f : List Text → ℕ → X → ℕ × Y) (F : (Text → Bool) → List Text → ℕ → X → Type 0) (g : List Text → ℕ → Z → ℕ × W) (G : (Text → Bool) → List Text → ℕ → Z → Type 0) (k : List Text → ℕ → V → ℕ × W) (K : (Text → Bool) → List Text → ℕ → V → Type 0) (h : Y → Z) {a b c : UidGenerator} {x : X} {y : Y} {w : W} (v : V) →
    ((all : List Text) (n : ℕ) → k all n v ≡ g all (f all n x).0 (h (f all n x).1)) → ((in_use : Text → Bool) (all : List Text) (n : ℕ) → F in_use all n x → G in_use all (f all n x).0 (h (f all n x).1) → K in_use all n v) → WalksAs f F a b x y → WalksAs g G b c (h y) w → WalksAs k K a c v w
walks-through f F g G k K h {a} {b} {c} {x} {y} {w} v e p s s' =
    let before = λ (all : List Text) (l : BeginsWith (made c) all). begins-before b c s'.names all s'.made_is l in
    record {
      names = s.names ++ s'.names;
      made_is = s'.made_is ∙ (ap (λ ns. ns ++ s'.names) s.made_is ∙ append_assoc (made a) s.names s'.names);
      used = λ in_use all l u. s'.used in_use all l (s.used in_use all (before all l) u);
      becomes = λ all l. e all (length (made a)) ∙ (ap (λ r. g all r.0 (h r.1)) (s.becomes all (before all l)) ∙ s'.becomes all l);
      are_fresh = λ in_use all l u.
          p in_use all (length (made a)) (s.are_fresh in_use all (before all l) u)
          (subst (λ r. G in_use all r.0 (h r.1)) (sym (s.becomes all (before all l))) (s'.are_fresh in_use all l (s.used in_use all (before all l) u)));
    }

-- two parts, one after the other
pub walks-then : {X Y Z W V U : Type 0} (f : List Text → ℕ → X → ℕ × Y) (F : (Text → Bool) → List Text → ℕ → X → Type 0) (g : List Text → ℕ → Z → ℕ × W) (G : (Text → Bool) → List Text → ℕ → Z → Type 0) (k : List Text → ℕ → V → ℕ × U) (K : (Text → Bool) → List Text → ℕ → V → Type 0) (h : Y → W → U) {a b c : UidGenerator} {x : X} {y : Y} {z : Z} {w : W} (v : V) →
    ((all : List Text) (n : ℕ) → k all n v ≡ ((g all (f all n x).0 z).0, h (f all n x).1 (g all (f all n x).0 z).1)) → ((in_use : Text → Bool) (all : List Text) (n : ℕ) → F in_use all n x → G in_use all (f all n x).0 z → K in_use all n v) → WalksAs f F a b x y → WalksAs g G b c z w → WalksAs k K a c v (h y w)
walks-then {Y = Y} {U = U} f F g G k K h {a} {b} {c} {x} {y} {z} {w} v e p s s' =
    let beside : List Text → ℕ → Y → ℕ × U = λ all n r. ((g all n z).0, h r (g all n z).1) in
    walks-through f F beside (λ in_use all n r. G in_use all n z) k K (λ r. r) v e p s (walks-part g G beside (λ in_use all n r. G in_use all n z) (h y) y (λ all n. refl) (λ in_use all n q. q) s')
