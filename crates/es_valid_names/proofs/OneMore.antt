-- Lists of declared names to which one fresh name comes, lexical or not: nothing clashes that didn't clash.
use Rattle.std.proofs.Common.{◌≡◌, refl, ◌∙◌, List, [], ◌∷◌, ◌++◌}
use Rattle.std.specs.Prelude.{Bool, true, false, not, ◌&&◌, ◌||◌}
use Rattle.std.specs.List.{list_any}
use Rattle.es_tree.specs.DeclaredNames.{Name, clashes}
use Rattle.es_tree.specs.Words.{Text}
use Rattle.es_valid_names.proofs.Claims.{AllUsed, Distinct, is_scope_space, is_used, joined}
use Rattle.es_valid_names.proofs.Grown.{IsNew, left-none, new-same, not-same, or-none, right-none, still-used, used-both}
use Rattle.es_valid_names.proofs.MoreAround.{any-after, any-more, or-last, or-self}

-- one list more, of this name alone
pub data OneMore (n : Name) : List (List Name) → List (List Name) → Type 0 where
  now : (gs : List (List Name)) → OneMore n gs ((n ∷ []) ∷ gs)
  later : {gs hs : List (List Name)} (g : List Name) → OneMore n gs hs → OneMore n (g ∷ gs) (g ∷ hs)

pub more-behind : {n : Name} (ks : List (List Name)) {gs hs : List (List Name)} → OneMore n gs hs → OneMore n (ks ++ gs) (ks ++ hs)
more-behind [] h = h
more-behind (k ∷ ks) h = later k (more-behind ks h)

pub more-before : {n : Name} (ks : List (List Name)) {gs hs : List (List Name)} → OneMore n gs hs → OneMore n (gs ++ ks) (hs ++ ks)
more-before ks (now gs) = now (gs ++ ks)
more-before ks (later g h) = later g (more-before ks h)

-- names to which it came
data Among (n : Name) : List Name → List Name → Type 0 where
  first : {ns : List Name} → Among n ns (n ∷ ns)
  after : {ns ms : List Name} (m : Name) → Among n ns ms → Among n (m ∷ ns) (m ∷ ms)

among-list : {n : Name} (g : List Name) {ns ms : List Name} → Among n ns ms → Among n (g ++ ns) (g ++ ms)
among-list [] h = h
among-list (m ∷ g) h = after m (among-list g h)

module _ (used used' : Text → Bool) (n : Name) (new : IsNew used used' n) (more : (x : Text) → used x ≡ true → used' x ≡ true) where
  -- it clashes with no name that is in use
  new-apart : (ns : List Name) → AllUsed used ns → clashes ns n ≡ false
  new-apart [] u = refl
  new-apart (m ∷ ns) u = or-none _ (clashes ns n) (λ i. new-same used n m new.space new.fresh u.0 i && (m.lexical || n.lexical)) (new-apart ns u.1)

  old-apart : (m : Name) → is_used used m ≡ true → {ns ms : List Name} → Among n ns ms → clashes ns m ≡ false → clashes ms m ≡ false
  old-apart m u (first {ns = ns}) h = or-none _ (clashes ns m) (λ i. not-same used m n new.space new.fresh u i && (n.lexical || m.lexical)) h
  old-apart m u (after {ns = ns} {ms = ms} k a) h = or-none _ (clashes ms m) (left-none _ (clashes ns m) h) (old-apart m u a (right-none _ (clashes ns m) h))

  old-list : (g : List Name) → AllUsed used g → (ns ms : List Name) → Among n ns ms → list_any (λ m. clashes ns m) g ≡ false → list_any (λ m. clashes ms m) g ≡ false
  old-list [] u ns ms a h = refl
  old-list (m ∷ g) u ns ms a h = or-none (clashes ms m) (list_any (λ m. clashes ms m) g) (old-apart m u.0 a (left-none (clashes ns m) (list_any (λ m. clashes ns m) g) h)) (old-list g u.1 ns ms a (right-none (clashes ns m) (list_any (λ m. clashes ns m) g) h))

  distinct-among : (ns ms : List Name) → Among n ns ms → (gs : List (List Name)) → Distinct used ns gs → Distinct used' ms gs
  distinct-among ns ms a [] d = tt
  distinct-among ns ms a (g ∷ gs) d = (old-list g d.1 ns ms a d.0, still-used used used' more g d.1, distinct-among (g ++ ns) (g ++ ms) (among-list g a) gs d.2)

  known : is_used used' n ≡ true
  known = (λ i. not (is_scope_space (new.space i)) || used' n.text) ∙ new.known

  distinct-more : {gs hs : List (List Name)} → OneMore n gs hs → (ns : List Name) → AllUsed used ns → Distinct used ns gs → Distinct used' ns hs
  distinct-more (now gs) ns u d = (or-none (clashes ns n) false (new-apart ns u) refl, (known, tt), distinct-among ns (n ∷ ns) first gs d)
  distinct-more (later g h) ns u d = (d.0, still-used used used' more g d.1, distinct-more h (g ++ ns) (used-both used used' g ns d.1 u) d.2)

  pub one-apart : {gs hs : List (List Name)} → OneMore n gs hs → Distinct used [] gs → Distinct used' [] hs
  one-apart h d = distinct-more h [] tt d

-- WHAT IS DECLARED: more than before, and this name

module _ (p : Name → Bool) where
  any-joined : (gs : List (List Name)) (ns : List Name) → list_any p ns ≡ true → list_any p (joined gs ns) ≡ true
  any-joined [] ns e = e
  any-joined (g ∷ gs) ns e = any-joined gs (g ++ ns) (any-more p g ns e)

  joined-more : (gs : List (List Name)) (ns ms : List Name) → (list_any p ns ≡ true → list_any p ms ≡ true) → list_any p (joined gs ns) ≡ true → list_any p (joined gs ms) ≡ true
  joined-more [] ns ms h e = h e
  joined-more (g ∷ gs) ns ms h e = joined-more gs (g ++ ns) (g ++ ms) (any-after p g ns ms h) e

  pub one-any : {n : Name} {gs hs : List (List Name)} → OneMore n gs hs → (ns : List Name) → list_any p (joined gs ns) ≡ true → list_any p (joined hs ns) ≡ true
  one-any {n} (now gs) ns e = joined-more gs ns (n ∷ ns) (λ d. or-last (p n) (list_any p ns) d) e
  one-any (later g h) ns e = one-any h (g ++ ns) e

  pub one-found : {n : Name} {gs hs : List (List Name)} → p n ≡ true → OneMore n gs hs → (ns : List Name) → list_any p (joined hs ns) ≡ true
  one-found {n} e (now gs) ns = any-joined gs (n ∷ ns) (or-self (p n) (list_any p ns) e)
  one-found e (later g h) ns = one-found e h (g ++ ns)
