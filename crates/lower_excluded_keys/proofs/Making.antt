-- Constants that are made one after the other, and what parts become with them.
use Rattle.std.proofs.Common.{◌≡◌, ◌∙◌, ◌++◌, ◌∷◌, Bool, List, [], ap, append-nil, append_assoc, refl, subst, sym}
use Rattle.std.specs.Prelude.{◌||◌, None, bytes_eq, codes}
use Rattle.std.proofs.lemmas.List.{map-append}
use Rattle.es_tree.specs.Bare.{bare}
use Rattle.es_tree.specs.Fresh.{IsFreshName, also}
use Rattle.es_tree.specs.Tree.{Tree}
use Rattle.es_tree.specs.Words.{Text}
use Rattle.es_scope.specs.Uids.{made, uses}
use Rattle.es_resolution.specs.Declarations.{Bound}
use Rattle.es_steps.specs.Nodes.{identifier}
use Rattle.es_excluded_keys.specs.ExcludedKeys.{AreFresh}
use Rattle.lower_fresh_names.specs.Names.{name_with}
use Rattle.lower_fresh_names.proofs.Walks.{same-fresh}
use Rattle.lower_excluded_keys.specs.Parts.{declarator_with_name}
use Rattle.lower_excluded_keys.specs.Sharing.{Becomes, IsNamed, Makes, Named, also_these, bounds_in, declarators_of, lists_in, names_in}
use Rattle.lower_excluded_keys.specs.declared.constants.MadeConstants.{MadeConstants}

-- FRESH NAMES, where the same names are in use

also-same : (f g : Text → Bool) (x : Text) → ((y : Text) → f y ≡ g y) → (y : Text) → also x f y ≡ also x g y
also-same f g x e y = ap (λ b. b || bytes_eq x y) (e y)

these-same : (f g : Text → Bool) (xs : List Text) → ((y : Text) → f y ≡ g y) → (y : Text) → also_these xs f y ≡ also_these xs g y
these-same f g [] e y = e y
these-same f g (x ∷ xs) e y = these-same (also x f) (also x g) xs (also-same f g x e) y

these-joined : (f : Text → Bool) (xs ys : List Text) (y : Text) → also_these (xs ++ ys) f y ≡ also_these ys (also_these xs f) y
these-joined f [] ys y = refl
these-joined f (x ∷ xs) ys y = these-joined (also x f) xs ys y

pub all-fresh : (f g : Text → Bool) (xs : List Text) → ((y : Text) → f y ≡ g y) → AreFresh f xs → AreFresh g xs
all-fresh f g [] e h = tt
all-fresh f g (x ∷ xs) e h = (same-fresh f g (codes "excluded") x e h.0, all-fresh (also x f) (also x g) xs (also-same f g x e) h.1)

fresh-joined : (f : Text → Bool) (xs ys : List Text) → AreFresh f xs → AreFresh (also_these xs f) ys → AreFresh f (xs ++ ys)
fresh-joined f [] ys h k = k
fresh-joined f (x ∷ xs) ys h k = (h.0, fresh-joined (also x f) xs ys h.1 k)

-- CONSTANTS ARE MADE: none, and more

makes-none : (a : MadeConstants) → Makes a a []
makes-none a = record { made_is = sym (append-nil (made a.uids)); fresh = tt; used = λ y. refl; declared = sym (append-nil a.declarators.items) }

makes-then : {a b c : MadeConstants} {cs ds : List Named} → Makes a b cs → Makes b c ds → Makes a c (cs ++ ds)
makes-then {a} {b} {c} {cs} {ds} h k =
    let in_use = uses a.uids in
    let names : names_in cs ++ names_in ds ≡ names_in (cs ++ ds) = sym (map-append (λ (n : Named). n.name) cs ds) in
    let declarators : declarators_of cs ++ declarators_of ds ≡ declarators_of (cs ++ ds) = sym (map-append (λ (n : Named). declarator_with_name n.name n.keys) cs ds) in
    record {
      made_is = k.made_is ∙ ap (λ ns. ns ++ names_in ds) h.made_is ∙ append_assoc (made a.uids) (names_in cs) (names_in ds) ∙ ap (λ ns. made a.uids ++ ns) names;
      fresh = subst (AreFresh in_use) names (fresh-joined in_use (names_in cs) (names_in ds) h.fresh (all-fresh (uses b.uids) (also_these (names_in cs) in_use) (names_in ds) h.used k.fresh));
      used = λ y. k.used y ∙ these-same (uses b.uids) (also_these (names_in cs) in_use) (names_in ds) h.used y ∙ sym (these-joined in_use (names_in cs) (names_in ds) y) ∙ ap (λ ns. also_these ns in_use y) names;
      declared = k.declared ∙ ap (λ ts. ts ++ declarators_of ds) h.declared ∙ append_assoc a.declarators.items (declarators_of cs) (declarators_of ds) ∙ ap (λ ts. a.declarators.items ++ ts) declarators;
    }

-- A PART BECOMES what it is, with no constant;
pub becomes-none : {T : Type 0} (shares : List Bound → List Tree → T → Type 0) (bared : T → T) (a : MadeConstants) (t : T) → shares [] [] t → Becomes shares bared a a t
becomes-none shares bared a t h = record { constants = []; makes = makes-none a; shared = t; shares_to = h; written = refl }

-- a name, with one;
pub becomes-named : (a b : MadeConstants) (keys t : Tree) (x : Text) → IsFreshName (uses a.uids) (codes "excluded") x → ((y : Text) → uses b.uids y ≡ also x (uses a.uids) y) → made b.uids ≡ made a.uids ++ x ∷ [] → b.declarators.items ≡ a.declarators.items ++ declarator_with_name x keys ∷ [] → t ≡ name_with 0 x → Becomes (IsNamed keys) bare a b t
becomes-named a b keys t x fresh taken more declared is = record {
  constants = record { name = x; keys = keys } ∷ [];
  makes = record { made_is = more; fresh = (fresh, tt); used = taken; declared = declared };
  shared = identifier (record { name = x; symbol = None });
  shares_to = (record { name = x; symbol = None }, refl, refl, refl);
  written = ap bare is;
}

-- as a part of more;
pub becomes-part : {T V : Type 0} (R : List Bound → List Tree → T → Type 0) (Q : List Bound → List Tree → V → Type 0) (bt : T → T) (bv : V → V) (h : T → V) {a b : MadeConstants} {t : T} →
    ((xs : List Bound) (ls : List Tree) (t : T) → R xs ls t → Q xs ls (h t)) → ((t u : T) → bt t ≡ bt u → bv (h t) ≡ bv (h u)) → Becomes R bt a b t → Becomes Q bv a b (h t)
becomes-part R Q bt bv h {t = t} goes bares r = record {
  constants = r.constants;
  makes = r.makes;
  shared = h r.shared;
  shares_to = goes (bounds_in r.constants) (lists_in r.constants) r.shared r.shares_to;
  written = bares t r.shared r.written;
}

-- and two parts, one after the other.
pub becomes-then : {T U V : Type 0} (R : List Bound → List Tree → T → Type 0) (S : List Bound → List Tree → U → Type 0) (Q : List Bound → List Tree → V → Type 0) (bt : T → T) (bu : U → U) (bv : V → V) (h : T → U → V) {a b c : MadeConstants} {t : T} {u : U} →
    ((xs ys : List Bound) (ls ms : List Tree) (t : T) (u : U) → R xs ls t → S ys ms u → Q (xs ++ ys) (ls ++ ms) (h t u)) → ((t t' : T) (u u' : U) → bt t ≡ bt t' → bu u ≡ bu u' → bv (h t u) ≡ bv (h t' u')) → Becomes R bt a b t → Becomes S bu b c u → Becomes Q bv a c (h t u)
becomes-then R S Q bt bu bv h {t = t} {u = u} joins bares r s =
    let cs = r.constants in let ds = s.constants in
    let bounds : bounds_in cs ++ bounds_in ds ≡ bounds_in (cs ++ ds) = sym (map-append (λ (n : Named). record { name = n.name; symbol = None }) cs ds) in
    let lists : lists_in cs ++ lists_in ds ≡ lists_in (cs ++ ds) = sym (map-append (λ (n : Named). n.keys) cs ds) in
    record {
      constants = cs ++ ds;
      makes = makes-then r.makes s.makes;
      shared = h r.shared s.shared;
      shares_to = subst (λ ls. Q (bounds_in (cs ++ ds)) ls (h r.shared s.shared)) lists (subst (λ xs. Q xs (lists_in cs ++ lists_in ds) (h r.shared s.shared)) bounds (joins (bounds_in cs) (bounds_in ds) (lists_in cs) (lists_in ds) r.shared s.shared r.shares_to s.shares_to));
      written = bares t r.shared u s.shared r.written s.written;
    }
