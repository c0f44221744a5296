-- Lists of declared names to which fresh ones come: nothing clashes that didn't clash.
use Rattle.std.proofs.Common.{◌≡◌, ◌==◌, refl, sym, ap, ◌∙◌, List, [], ◌∷◌, ◌++◌}
use Rattle.std.specs.Prelude.{Bool, true, false, not, ◌&&◌, ◌||◌, bytes_eq}
use Rattle.std.specs.List.{list_any}
use Rattle.es_tree.specs.DeclaredNames.{Name, clashes, is_same_name, namespace_number}
use Rattle.es_tree.specs.Words.{Text}
use Rattle.es_tree.specs.declared.place.Namespace.{Namespace}
use Rattle.es_tree.specs.declared.place.Namespace.TheVariants.{Scope}
use Rattle.es_resolution.proofs.Basics.{bytes_eq-equal}
use Rattle.es_valid_names.proofs.Claims.{AllUsed, Distinct, is_scope_space, is_used}

-- NEW NAMES: a scope binds them, under a name that wasn't in use, and is afterwards

pub record IsNew (used used' : Text → Bool) (n : Name) : Type 0 where
  pub space : n.namespace ≡ Scope
  pub fresh : used n.text ≡ false
  pub known : used' n.text ≡ true

abbrev pub AllNew : (Text → Bool) → (Text → Bool) → List Name → Type 0
AllNew used used' [] = Unit {0}
AllNew used used' (n ∷ ns) = IsNew used used' n × AllNew used used' ns

-- and by `var` or the like
abbrev pub AllWeak : List Name → Type 0
AllWeak [] = Unit {0}
AllWeak (n ∷ ns) = (n.lexical ≡ false) × AllWeak ns

-- some lists more, of names of `var`
pub data Grown (used used' : Text → Bool) : List (List Name) → List (List Name) → Type 0 where
  no_list : Grown used used' [] []
  same_list : {gs hs : List (List Name)} (g : List Name) → Grown used used' gs hs → Grown used used' (g ∷ gs) (g ∷ hs)
  new_list : {gs hs : List (List Name)} (g : List Name) → AllNew used used' g → AllWeak g → Grown used used' gs hs → Grown used used' gs (g ∷ hs)

-- names to which new ones come
data Wider (used used' : Text → Bool) : List Name → List Name → Type 0 where
  no_name : Wider used used' [] []
  same_name : {ns ms : List Name} (n : Name) → Wider used used' ns ms → Wider used used' (n ∷ ns) (n ∷ ms)
  new_name : {ns ms : List Name} (n : Name) → IsNew used used' n → n.lexical ≡ false → Wider used used' ns ms → Wider used used' ns (n ∷ ms)

module _ {used used' : Text → Bool} where
  pub grown-self : (gs : List (List Name)) → Grown used used' gs gs
  grown-self [] = no_list
  grown-self (g ∷ gs) = same_list g (grown-self gs)

  pub grown-both : {gs hs ks ls : List (List Name)} → Grown used used' gs hs → Grown used used' ks ls → Grown used used' (gs ++ ks) (hs ++ ls)
  grown-both no_list k = k
  grown-both (same_list g h) k = same_list g (grown-both h k)
  grown-both (new_list g a w h) k = new_list g a w (grown-both h k)

  wider-list : {ns ms : List Name} (g : List Name) → Wider used used' ns ms → Wider used used' (g ++ ns) (g ++ ms)
  wider-list [] h = h
  wider-list (n ∷ g) h = same_name n (wider-list g h)

  wider-new : {ns ms : List Name} (g : List Name) → AllNew used used' g → AllWeak g → Wider used used' ns ms → Wider used used' ns (g ++ ms)
  wider-new [] a w h = h
  wider-new (n ∷ g) a w h = new_name n a.0 w.0 (wider-new g a.1 w.1 h)

-- CLASHES

pub never : (a b : Bool) → b ≡ false → (a && b) ≡ false
never true b e = e
never false b e = refl

pub or-none : (a b : Bool) → a ≡ false → b ≡ false → (a || b) ≡ false
or-none true b e d = absurd (cc e)
or-none false b e d = d

pub left-none : (a b : Bool) → (a || b) ≡ false → a ≡ false
left-none true b e = absurd (cc e)
left-none false b e = refl

pub right-none : (a b : Bool) → (a || b) ≡ false → b ≡ false
right-none true b e = absurd (cc e)
right-none false b e = e

module _ (used : Text → Bool) where
  texts-differ : (x y : Text) → used x ≡ false → used y ≡ true → bytes_eq x y ≡ false
  texts-differ x y e d = at (bytes_eq x y) refl
    where
      at : (b : Bool) → bytes_eq x y ≡ b → b ≡ false
      at true h = absurd (cc (sym e ∙ ap used (bytes_eq-equal x y h) ∙ d))
      at false h = refl

  -- a name of a scope that is in use, and a new one
  pub not-same : (n m : Name) → m.namespace ≡ Scope → used m.text ≡ false → is_used used n ≡ true → is_same_name n.namespace n.owner n.text m ≡ false
  not-same n m s e h = (λ i. namespace_number (s i) == namespace_number n.namespace && m.owner == n.owner && bytes_eq m.text n.text) ∙ at n.namespace h
    where
      at : (k : Namespace) → (not (is_scope_space k) || used n.text) ≡ true → (namespace_number Scope == namespace_number k && m.owner == n.owner && bytes_eq m.text n.text) ≡ false
      at Scope h = never (m.owner == n.owner) (bytes_eq m.text n.text) (texts-differ m.text n.text e h)
      at _ h = refl

  pub new-same : (n m : Name) → n.namespace ≡ Scope → used n.text ≡ false → is_used used m ≡ true → is_same_name n.namespace n.owner n.text m ≡ false
  new-same n m s e h = (λ i. namespace_number m.namespace == namespace_number (s i) && m.owner == n.owner && bytes_eq m.text n.text) ∙ at m.namespace h
    where
      reversed : (b : Bool) → bytes_eq m.text n.text ≡ b → used m.text ≡ true → b ≡ false
      reversed true d u = absurd (cc (sym u ∙ ap used (bytes_eq-equal m.text n.text d) ∙ e))
      reversed false d u = refl

      at : (k : Namespace) → (not (is_scope_space k) || used m.text) ≡ true → (namespace_number k == namespace_number Scope && m.owner == n.owner && bytes_eq m.text n.text) ≡ false
      at Scope h = never (m.owner == n.owner) (bytes_eq m.text n.text) (reversed (bytes_eq m.text n.text) refl h)
      at _ h = refl

  both-weak : (a b c : Bool) → b ≡ false → c ≡ false → (a && (b || c)) ≡ false
  both-weak a b c e d = never a (b || c) (or-none b c e d)

  module _ (used' : Text → Bool) where
    -- a name that is in use clashes with no new one
    old-clashes : (n : Name) → is_used used n ≡ true → {ns ms : List Name} → Wider used used' ns ms → clashes ns n ≡ false → clashes ms n ≡ false
    old-clashes n u no_name h = h
    old-clashes n u (same_name {ns = ns} {ms = ms} m w) h = or-none _ (clashes ms n) (left-none _ (clashes ns n) h) (old-clashes n u w (right-none _ (clashes ns n) h))
    old-clashes n u (new_name {ms = ms} m f e w) h = or-none _ (clashes ms n) (λ i. not-same n m f.space f.fresh u i && (m.lexical || n.lexical)) (old-clashes n u w h)

    -- and a new one with none
    new-clashes : (n : Name) → IsNew used used' n → n.lexical ≡ false → {ns ms : List Name} → AllUsed used ns → Wider used used' ns ms → clashes ms n ≡ false
    new-clashes n f e u no_name = refl
    new-clashes n f e u (same_name {ms = ms} m w) = or-none _ (clashes ms n) (λ i. new-same n m f.space f.fresh u.0 i && (m.lexical || n.lexical)) (new-clashes n f e u.1 w)
    new-clashes n f e u (new_name {ms = ms} m g d w) = or-none _ (clashes ms n) (both-weak (is_same_name n.namespace n.owner n.text m) m.lexical n.lexical d e) (new-clashes n f e u w)

    old-list : (g : List Name) → AllUsed used g → (ns ms : List Name) → Wider used used' ns ms → list_any (λ n. clashes ns n) g ≡ false → list_any (λ n. clashes ms n) g ≡ false
    old-list [] u ns ms w h = refl
    old-list (n ∷ g) u ns ms w h = or-none (clashes ms n) (list_any (λ n. clashes ms n) g) (old-clashes n u.0 w (left-none (clashes ns n) (list_any (λ n. clashes ns n) g) h)) (old-list g u.1 ns ms w (right-none (clashes ns n) (list_any (λ n. clashes ns n) g) h))

    new-lists : (g : List Name) → AllNew used used' g → AllWeak g → (ns ms : List Name) → AllUsed used ns → Wider used used' ns ms → list_any (λ n. clashes ms n) g ≡ false
    new-lists [] f e ns ms u w = refl
    new-lists (n ∷ g) f e ns ms u w = or-none (clashes ms n) (list_any (λ n. clashes ms n) g) (new-clashes n f.0 e.0 u w) (new-lists g f.1 e.1 ns ms u w)

    pub used-both : (xs ys : List Name) → AllUsed used xs → AllUsed used ys → AllUsed used (xs ++ ys)
    used-both [] ys h k = k
    used-both (x ∷ xs) ys h k = (h.0, used-both xs ys h.1 k)

    all-known : (g : List Name) → AllNew used used' g → AllUsed used' g
    all-known [] h = tt
    all-known (n ∷ g) h = (known-used n h.0, all-known g h.1)
      where
        known-used : (n : Name) → IsNew used used' n → is_used used' n ≡ true
        known-used n f = (λ i. not (is_scope_space (f.space i)) || used' n.text) ∙ f.known

    -- MORE IN USE
    module _ (more : (x : Text) → used x ≡ true → used' x ≡ true) where
      or-more : (a : Bool) (x : Text) → (a || used x) ≡ true → (a || used' x) ≡ true
      or-more true x e = refl
      or-more false x e = more x e

      pub still-used : (g : List Name) → AllUsed used g → AllUsed used' g
      still-used [] h = tt
      still-used (n ∷ g) h = (or-more (not (is_scope_space n.namespace)) n.text h.0, still-used g h.1)

      pub still-distinct : (earlier : List Name) (gs : List (List Name)) → Distinct used earlier gs → Distinct used' earlier gs
      still-distinct earlier [] h = tt
      still-distinct earlier (g ∷ gs) h = (h.0, still-used g h.1, still-distinct (g ++ earlier) gs h.2)

      distinct-grown : {ns ms : List Name} {gs hs : List (List Name)} → AllUsed used ns → Wider used used' ns ms → Grown used used' gs hs → Distinct used ns gs → Distinct used' ms hs
      distinct-grown u w no_list d = tt
      distinct-grown {ns = ns} {ms = ms} u w (same_list g h) d = (old-list g d.1 ns ms w d.0, still-used g d.1, distinct-grown (used-both g ns d.1 u) (wider-list g w) h d.2)
      distinct-grown {ns = ns} {ms = ms} u w (new_list g f e h) d = (new-lists g f e ns ms u w, all-known g f, distinct-grown u (wider-new g f e w) h d)

      pub still-apart : {gs hs : List (List Name)} → Grown used used' gs hs → Distinct used [] gs → Distinct used' [] hs
      still-apart h d = distinct-grown tt no_name h d
