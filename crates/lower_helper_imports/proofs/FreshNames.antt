-- Fresh names that are made for helpers, one after the other.
use Rattle.std.proofs.Common.{◌≡◌, ◌∙◌, ◌++◌, ◌+◌, ◌<◌, ◌∷◌, Bool, List, [], ap, get_or, length, refl, subst, sym, take, ℕ}
use Rattle.std.specs.Prelude.{◌||◌, bytes_eq}
use Rattle.std.proofs.lemmas.List.{take_more}
use Rattle.es_tree.specs.Fresh.{IsFreshName, also, candidate, text_base}
use Rattle.es_tree.specs.Helpers.{helper_text}
use Rattle.es_tree.specs.Words.{Text}
use Rattle.es_tree.specs.declared.helper.Helper.{Helper}
use Rattle.es_helper_imports.specs.Imported.{AreFresh}

-- these names are in use, too
abbrev pub also_these : List Text → (Text → Bool) → Text → Bool
also_these [] in_use = in_use
also_these (x ∷ xs) in_use = also_these xs (also x in_use)

pub these-next : (in_use : Text → Bool) (xs : List Text) (x y : Text) → also_these (xs ++ x ∷ []) in_use y ≡ also x (also_these xs in_use) y
these-next in_use [] x y = refl
these-next in_use (z ∷ xs) x y = these-next (also z in_use) xs x y

fresh-same : (f g : Text → Bool) (b x : Text) → ((y : Text) → f y ≡ g y) → IsFreshName f b x → IsFreshName g b x
fresh-same f g b x e h = record {
  number = h.number;
  name = h.name;
  free = sym (e x) ∙ h.free;
  first = λ m l. sym (e (candidate b m)) ∙ h.first m l;
}

fresh-next : (in_use : Text → Bool) (hs : List Helper) (xs : List Text) (h : Helper) (x : Text) → AreFresh in_use hs xs → IsFreshName (also_these xs in_use) (text_base (helper_text h)) x → AreFresh in_use (hs ++ h ∷ []) (xs ++ x ∷ [])
fresh-next in_use [] [] h x fresh one = (one, tt)
fresh-next in_use (g ∷ hs) (y ∷ xs) h x fresh one = (fresh.0, fresh-next (also y in_use) hs xs h x fresh.1 one)
fresh-next in_use [] (y ∷ xs) h x fresh one = absurd fresh
fresh-next in_use (g ∷ hs) [] h x fresh one = absurd fresh

-- What is in use has become what now is, and these names were made for these helpers.
pub record MadeFor (in_use now : Text → Bool) (hs : List Helper) (xs : List Text) : Type 0 where
  pub fresh : AreFresh in_use hs xs
  pub used : (y : Text) → now y ≡ also_these xs in_use y

pub made-none : (in_use now : Text → Bool) → ((y : Text) → now y ≡ in_use y) → MadeFor in_use now [] []
made-none in_use now e = record { fresh = tt; used = e }

pub made-next : (in_use now next : Text → Bool) (hs : List Helper) (xs : List Text) (h : Helper) (x : Text) → MadeFor in_use now hs xs → IsFreshName now (text_base (helper_text h)) x → ((y : Text) → next y ≡ also x now y) → MadeFor in_use next (hs ++ h ∷ []) (xs ++ x ∷ [])
made-next in_use now next hs xs h x made one taken = record {
  fresh = fresh-next in_use hs xs h x made.fresh (fresh-same now (also_these xs in_use) (text_base (helper_text h)) x made.used one);
  used = λ y. taken y ∙ ap (λ b. b || bytes_eq x y) (made.used y) ∙ sym (these-next in_use xs x y);
}

-- a name more, for the next of these helpers
pub made-more : (in_use now next : Text → Bool) (hs : List Helper) (i : ℕ) (d : Helper) (t x : Text) (xs ys : List Text) → i < length hs → t ≡ helper_text (get_or hs i d) → IsFreshName now (text_base t) x → ((y : Text) → next y ≡ also x now y) → ys ≡ xs ++ x ∷ [] → MadeFor in_use now (take i hs) xs → MadeFor in_use next (take (i + 1) hs) ys
made-more in_use now next hs i d t x xs ys l called fresh taken more made =
    let h = get_or hs i d in
    subst (λ gs. MadeFor in_use next gs ys) (sym (take_more hs i d l)) (subst (MadeFor in_use next (take i hs ++ h ∷ [])) (sym more) (made-next in_use now next (take i hs) xs h x made (subst (λ u. IsFreshName now (text_base u) x) called fresh) taken))
