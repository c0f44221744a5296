-- Fresh names that are made one after the other, and lists that begin with them.
use Rattle.std.proofs.Common.{◌≡◌, ◌∙◌, ◌++◌, ◌+◌, ◌∷◌, Bool, List, [], ap, append-nil, append_assoc, length, refl, sym}
use Rattle.std.specs.Prelude.{◌||◌, bytes_eq, codes}
use Rattle.std.proofs.lemmas.List.{length-append}
use Rattle.es_tree.specs.Fresh.{IsFreshName, also, candidate, text_base}
use Rattle.es_tree.specs.Words.{Text}
use Rattle.es_scope.specs.Uids.{made, uses}
use Rattle.es_scope.specs.declared.uids.UidGenerator.{UidGenerator}
use Rattle.es_pattern_moves.specs.Moved.{name_of}
use Rattle.es_using_rows.specs.Used.{AreFresh}
use Rattle.lower_using.specs.Uses.{BeginsWith, MakesNames, also_these}

-- FRESH NAMES, where the same names are in use

also-same : {f g : Text → Bool} (x : Text) → ((y : Text) → f y ≡ g y) → (y : Text) → also x f y ≡ also x g y
also-same x e y = ap (λ b. b || bytes_eq x y) (e y)

these-same : (f g : Text → Bool) (xs : List Text) → ((y : Text) → f y ≡ g y) → (y : Text) → also_these xs f y ≡ also_these xs g y
these-same f g [] e y = e y
these-same f g (x ∷ xs) e y = these-same (also x f) (also x g) xs (also-same x e) y

these-joined : (f : Text → Bool) (xs ys : List Text) (y : Text) → also_these (xs ++ ys) f y ≡ also_these ys (also_these xs f) y
these-joined f [] ys y = refl
these-joined f (x ∷ xs) ys y = these-joined (also x f) xs ys y

fresh-one : (f g : Text → Bool) (x : Text) → ((y : Text) → f y ≡ g y) → IsFreshName f (text_base (codes "usingCtx")) x → IsFreshName g (text_base (codes "usingCtx")) x
fresh-one f g x e h = record {
  number = h.number;
  name = h.name;
  free = sym (e x) ∙ h.free;
  first = λ m l. sym (e (candidate (text_base (codes "usingCtx")) m)) ∙ h.first m l;
}

pub fresh-same : (f g : Text → Bool) (xs : List Text) → ((y : Text) → f y ≡ g y) → AreFresh f xs → AreFresh g xs
fresh-same f g [] e h = tt
fresh-same f g (x ∷ xs) e h = (fresh-one f g x e h.0, fresh-same (also x f) (also x g) xs (also-same x e) h.1)

fresh-joined : (f : Text → Bool) (xs ys : List Text) → AreFresh f xs → AreFresh (also_these xs f) ys → AreFresh f (xs ++ ys)
fresh-joined f [] ys h k = k
fresh-joined f (x ∷ xs) ys h k = (h.0, fresh-joined (also x f) xs ys h.1 k)

-- NAMES ARE MADE: none, one, and more

pub makes-none : (a : UidGenerator) → MakesNames a a []
makes-none a = record { made_is = sym (append-nil (made a)); fresh = tt; used = λ x. refl }

pub makes-one : (a b : UidGenerator) (x : Text) → IsFreshName (uses a) (text_base (codes "usingCtx")) x → ((y : Text) → uses b y ≡ also x (uses a) y) → made b ≡ made a ++ x ∷ [] → MakesNames a b (x ∷ [])
makes-one a b x h e m = record { made_is = m; fresh = (h, tt); used = e }

pub makes-then : {a b c : UidGenerator} {xs ys : List Text} → MakesNames a b xs → MakesNames b c ys → MakesNames a c (xs ++ ys)
makes-then {a} {b} {c} {xs} {ys} h k = record {
  made_is = k.made_is ∙ (ap (λ ns. ns ++ ys) h.made_is ∙ append_assoc (made a) xs ys);
  fresh = fresh-joined (uses a) xs ys h.fresh (fresh-same (uses b) (also_these xs (uses a)) ys h.used k.fresh);
  used = λ y. k.used y ∙ (these-same (uses b) (also_these xs (uses a)) ys h.used y ∙ sym (these-joined (uses a) xs ys y));
}

-- A LIST THAT BEGINS with the names made by the end begins with those made before

pub begins-before : {a b : UidGenerator} {xs : List Text} (all : List Text) → MakesNames a b xs → BeginsWith (made b) all → BeginsWith (made a) all
begins-before {a} {b} {xs} all h s = (xs ++ s.0, s.1 ∙ (ap (λ ns. ns ++ s.0) h.made_is ∙ append_assoc (made a) xs s.0))

name-at : (xs ys : List Text) (x : Text) → name_of (xs ++ (x ∷ ys)) (length xs) ≡ x
name-at [] ys x = refl
name-at (y ∷ xs) ys x = name-at xs ys x

-- the name made next has the number of those made before
pub name-next : (a b : UidGenerator) (x : Text) (all : List Text) → MakesNames a b (x ∷ []) → BeginsWith (made b) all → name_of all (length (made a)) ≡ x
name-next a b x all h s =
    let is : all ≡ made a ++ (x ∷ s.0) = s.1 ∙ (ap (λ ns. ns ++ s.0) h.made_is ∙ append_assoc (made a) (x ∷ []) s.0) in
    ap (λ ns. name_of ns (length (made a))) is ∙ name-at (made a) s.0 x

pub one-more : (a b : UidGenerator) (x : Text) → MakesNames a b (x ∷ []) → length (made a) + 1 ≡ length (made b)
one-more a b x h = sym (ap length h.made_is ∙ length-append (made a) (x ∷ []))
