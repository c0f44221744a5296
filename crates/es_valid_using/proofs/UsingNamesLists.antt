-- Lists of declared names, one for each node, from which names of inner scopes go and to which fresh ones come: nothing clashes that
-- didn't clash.
use Rattle.std.proofs.Common.{◌≡◌, ◌==◌, refl, List, [], ◌∷◌, ◌++◌}
use Rattle.std.specs.Prelude.{Bool, true, false, ◌&&◌, ◌||◌, bytes_eq}
use Rattle.std.specs.List.{list_any}
use Rattle.es_tree.specs.DeclaredNames.{Name, clashes, is_same_name, namespace_number}
use Rattle.es_tree.specs.Words.{Text}
use Rattle.es_tree.specs.declared.place.Namespace.TheVariants.{PrivateNames, Scope}
use Rattle.es_valid_names.proofs.Claims.{Distinct, has_private, joined}
use Rattle.es_valid_names.proofs.Grown.{AllNew, AllWeak, Grown, left-none, or-none, right-none, still-apart}
use Rattle.es_valid_names.proofs.Grown.Grown.{no_list as ends, same_list as as_before, new_list as comes}
use Rattle.es_valid_names.proofs.MoreAround.{any-after, any-more}

-- WHAT GOES: names that a scope binds

abbrev pub AllBound : List Name → Type 0
AllBound [] = Unit {0}
AllBound (n ∷ ns) = (n.namespace ≡ Scope) × AllBound ns

-- Some lists more, of names of `var`; and where lists may go, some fewer.
pub data Moved (used used' : Text → Bool) (go : Bool) : List (List Name) → List (List Name) → Type 0 where
  no_list : Moved used used' go [] []
  same_list : {gs hs : List (List Name)} (g : List Name) → Moved used used' go gs hs → Moved used used' go (g ∷ gs) (g ∷ hs)
  new_list : {gs hs : List (List Name)} (g : List Name) → AllNew used used' g → AllWeak g → Moved used used' go gs hs → Moved used used' go gs (g ∷ hs)
  lost_list : {gs hs : List (List Name)} (g : List Name) → go ≡ true → AllBound g → Moved used used' go gs hs → Moved used used' go (g ∷ gs) hs

module _ {used used' : Text → Bool} {go : Bool} where
  pub moved-self : (gs : List (List Name)) → Moved used used' go gs gs
  moved-self [] = no_list
  moved-self (g ∷ gs) = same_list g (moved-self gs)

  pub moved-both : {gs hs ks ls : List (List Name)} → Moved used used' go gs hs → Moved used used' go ks ls → Moved used used' go (gs ++ ks) (hs ++ ls)
  moved-both no_list k = k
  moved-both (same_list g h) k = same_list g (moved-both h k)
  moved-both (new_list g a w h) k = new_list g a w (moved-both h k)
  moved-both (lost_list g e b h) k = lost_list g e b (moved-both h k)

  pub moved-grown : {gs hs : List (List Name)} → Grown used used' gs hs → Moved used used' go gs hs
  moved-grown ends = no_list
  moved-grown (as_before g h) = same_list g (moved-grown h)
  moved-grown (comes g a w h) = new_list g a w (moved-grown h)

-- FEWER NAMES clash with none with which they didn't

data Fewer : List Name → List Name → Type 0 where
  no_name : Fewer [] []
  same_name : {ns ms : List Name} (n : Name) → Fewer ns ms → Fewer (n ∷ ns) (n ∷ ms)
  lost_name : {ns ms : List Name} (n : Name) → Fewer ns ms → Fewer (n ∷ ns) ms

data FewerLists : List (List Name) → List (List Name) → Type 0 where
  no_lists : FewerLists [] []
  kept : {gs hs : List (List Name)} (g : List Name) → FewerLists gs hs → FewerLists (g ∷ gs) (g ∷ hs)
  lost : {gs hs : List (List Name)} (g : List Name) → FewerLists gs hs → FewerLists (g ∷ gs) hs

fewer-list : (g : List Name) {ns ms : List Name} → Fewer ns ms → Fewer (g ++ ns) (g ++ ms)
fewer-list [] h = h
fewer-list (n ∷ g) h = same_name n (fewer-list g h)

fewer-lost : (g : List Name) {ns ms : List Name} → Fewer ns ms → Fewer (g ++ ns) ms
fewer-lost [] h = h
fewer-lost (n ∷ g) h = lost_name n (fewer-lost g h)

fewer-clash : (n : Name) {ns ms : List Name} → Fewer ns ms → clashes ns n ≡ false → clashes ms n ≡ false
fewer-clash n no_name h = h
fewer-clash n (same_name {ns = ns} {ms = ms} m f) h = or-none _ (clashes ms n) (left-none _ (clashes ns n) h) (fewer-clash n f (right-none _ (clashes ns n) h))
fewer-clash n (lost_name {ns = ns} m f) h = fewer-clash n f (right-none _ (clashes ns n) h)

fewer-clashes : (g : List Name) (ns ms : List Name) → Fewer ns ms → list_any (λ n. clashes ns n) g ≡ false → list_any (λ n. clashes ms n) g ≡ false
fewer-clashes [] ns ms f h = refl
fewer-clashes (n ∷ g) ns ms f h = or-none (clashes ms n) _ (fewer-clash n f (left-none (clashes ns n) _ h)) (fewer-clashes g ns ms f (right-none (clashes ns n) _ h))

fewer-distinct : (used : Text → Bool) (ns ms : List Name) → Fewer ns ms → {gs hs : List (List Name)} → FewerLists gs hs → Distinct used ns gs → Distinct used ms hs
fewer-distinct used ns ms f no_lists d = tt
fewer-distinct used ns ms f (kept g h) d = (fewer-clashes g ns ms f d.0, d.1, fewer-distinct used (g ++ ns) (g ++ ms) (fewer-list g f) h d.2)
fewer-distinct used ns ms f (lost g h) d = fewer-distinct used (g ++ ns) ms (fewer-lost g f) h d.2

-- what stays, and what then comes
record Halves (used used' : Text → Bool) (gs hs : List (List Name)) : Type 0 where
  between : List (List Name)
  fewer : FewerLists gs between
  grown : Grown used used' between hs

halves : {used used' : Text → Bool} {go : Bool} {gs hs : List (List Name)} → Moved used used' go gs hs → Halves used used' gs hs
halves no_list = record { between = []; fewer = no_lists; grown = ends }
halves (same_list g h) = let r = halves h in record { between = g ∷ r.between; fewer = kept g r.fewer; grown = as_before g r.grown }
halves (new_list g a w h) = let r = halves h in record { between = r.between; fewer = r.fewer; grown = comes g a w r.grown }
halves (lost_list g e b h) = let r = halves h in record { between = r.between; fewer = lost g r.fewer; grown = r.grown }

pub moved-apart : {used used' : Text → Bool} {go : Bool} → ((x : Text) → used x ≡ true → used' x ≡ true) → {gs hs : List (List Name)} → Moved used used' go gs hs → Distinct used [] gs → Distinct used' [] hs
moved-apart {used} {used'} more h d = let r = halves h in still-apart used used' more r.grown (fewer-distinct used [] [] no_name r.fewer d)

-- the last of some lists are apart by themselves
fewer-self : (gs : List (List Name)) → FewerLists gs gs
fewer-self [] = no_lists
fewer-self (g ∷ gs) = kept g (fewer-self gs)

fewer-last : (gs hs : List (List Name)) → FewerLists (gs ++ hs) hs
fewer-last [] hs = fewer-self hs
fewer-last (g ∷ gs) hs = lost g (fewer-last gs hs)

fewer-first : (gs hs : List (List Name)) → FewerLists (gs ++ hs) gs
fewer-first [] [] = no_lists
fewer-first [] (h ∷ hs) = lost h (fewer-first [] hs)
fewer-first (g ∷ gs) hs = kept g (fewer-first gs hs)

pub last-apart : (used : Text → Bool) (gs hs : List (List Name)) → Distinct used [] (gs ++ hs) → Distinct used [] hs
last-apart used gs hs d = fewer-distinct used [] [] no_name (fewer-last gs hs) d

pub first-apart : (used : Text → Bool) (gs hs : List (List Name)) → Distinct used [] (gs ++ hs) → Distinct used [] gs
first-apart used gs hs d = fewer-distinct used [] [] no_name (fewer-first gs hs) d

-- WHAT IS FOUND where what goes isn't asked for

module _ (p : Name → Bool) (go : Bool) (other : go ≡ true → (n : Name) → n.namespace ≡ Scope → p n ≡ false) where
  not-found : go ≡ true → (g ns : List Name) → AllBound g → list_any p (g ++ ns) ≡ true → list_any p ns ≡ true
  not-found e [] ns b h = h
  not-found e (n ∷ g) ns b h = not-found e g ns b.1 (at (p n) (other e n b.0) h)
    where
      at : (v : Bool) → v ≡ false → (v || list_any p (g ++ ns)) ≡ true → list_any p (g ++ ns) ≡ true
      at true d h = absurd (cc d)
      at false d h = h

  pub moved-any : {used used' : Text → Bool} {gs hs : List (List Name)} → Moved used used' go gs hs → (ns ms : List Name) → (list_any p ns ≡ true → list_any p ms ≡ true) → list_any p (joined gs ns) ≡ true → list_any p (joined hs ms) ≡ true
  moved-any no_list ns ms h e = h e
  moved-any (same_list g r) ns ms h e = moved-any r (g ++ ns) (g ++ ms) (any-after p g ns ms h) e
  moved-any (new_list g a w r) ns ms h e = moved-any r ns (g ++ ms) (λ d. any-more p g ms (h d)) e
  moved-any (lost_list g d b r) ns ms h e = moved-any r (g ++ ns) ms (λ f. h (not-found d g ns b f)) e

pub moved-private : {used used' : Text → Bool} {go : Bool} {gs hs : List (List Name)} → Moved used used' go gs hs → (x : Text) → has_private gs x ≡ true → has_private hs x ≡ true
moved-private {go = go} r x = moved-any (is_same_name PrivateNames 1 x) go (λ e n d. unlike n d) r [] [] (λ e. e)
  where
    unlike : (n : Name) → n.namespace ≡ Scope → is_same_name PrivateNames 1 x n ≡ false
    unlike n d = λ i. namespace_number (d i) == 3 && n.owner == 1 && bytes_eq n.text x
