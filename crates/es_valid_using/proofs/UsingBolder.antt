-- Lists of declared names of which some, that are declared as by `var`, become those of functions in a block: where each stands once, and
-- no other has its name, nothing clashes that didn't clash.
use Rattle.std.proofs.Common.{◌≡◌, ◌==◌, ℕ, refl, sym, ap, ◌∙◌, List, [], ◌∷◌, ◌++◌}
use Rattle.std.specs.Prelude.{Bool, true, false, not, ◌&&◌, ◌||◌, Option, Some, bytes_eq, is_some, if◌then◌else◌}
use Rattle.std.specs.List.{list_any}
use Rattle.std.proofs.lemmas.Bool.{and_parts, eqb-true}
use Rattle.es_tree.specs.DeclaredNames.{Name, clashes, is_same_name, name, namespace_number}
use Rattle.es_tree.specs.Words.{Text}
use Rattle.es_tree.specs.declared.place.Namespace.{Namespace}
use Rattle.es_tree.specs.declared.place.Namespace.TheVariants.{Scope}
use Rattle.es_resolution.specs.Declarations.{Bound, sought}
use Rattle.es_resolution.specs.Resolved.{bound_by}
use Rattle.es_resolution.proofs.Basics.{bytes_eq-equal, bytes_eq-self}
use Rattle.es_steps.specs.UsingBodies.{each_once}
use Rattle.es_valid_names.proofs.Claims.{Distinct, is_scope_space}
use Rattle.es_valid_names.proofs.Grown.{left-none, or-none, right-none}
use Rattle.es_valid_using.proofs.UsingVars.{AllFine, Fine}

-- a name that the scope binds
abbrev pub scope_name : Text → Bool → Name
scope_name x b = name Scope 1 x b

module _ (all : List Bound) where
  -- no function has it
  abbrev pub is_other : Text → Bool
  is_other x = not (bound_by all x)

  -- lists with names of these functions, which become lexical
  pub data Bolder : List Bound → List (List Name) → List (List Name) → Type 0 where
    no_list : Bolder [] [] []
    same_list : {fs : List Bound} {gs hs : List (List Name)} (g : List Name) → AllFine is_other g → Bolder fs gs hs → Bolder fs (g ∷ gs) (g ∷ hs)
    bolder : {fs : List Bound} {gs hs : List (List Name)} (f : Bound) → bound_by all f.name ≡ true → Bolder fs gs hs → Bolder (f ∷ fs) ((scope_name f.name false ∷ []) ∷ gs) ((scope_name f.name true ∷ []) ∷ hs)

  -- such names that stand before, where these functions come
  data Harder (fs : List Bound) : List Name → List Name → Type 0 where
    no_name : Harder fs [] []
    same_name : {ns ms : List Name} (n : Name) → Fine is_other n → Harder fs ns ms → Harder fs (n ∷ ns) (n ∷ ms)
    harder : {ns ms : List Name} (x : Text) → bound_by all x ≡ true → bound_by fs x ≡ false → Harder fs ns ms → Harder fs (scope_name x false ∷ ns) (scope_name x true ∷ ms)

  harder-list : {fs : List Bound} (g : List Name) → AllFine is_other g → {ns ms : List Name} → Harder fs ns ms → Harder fs (g ++ ns) (g ++ ms)
  harder-list [] f h = h
  harder-list (n ∷ g) f h = same_name n f.0 (harder-list g f.1 h)

  found-later : (b : Bool) (o : Option (Option ℕ)) (s : Option ℕ) → is_some (if b then Some s else o) ≡ false → is_some o ≡ false
  found-later true o s e = absurd (cc e)
  found-later false o s e = e

  not-found : (b : Bool) (o : Option (Option ℕ)) (s : Option ℕ) → is_some (if b then Some s else o) ≡ false → b ≡ false
  not-found true o s e = absurd (cc e)
  not-found false o s e = refl

  harder-later : (f : Bound) (fs : List Bound) {ns ms : List Name} → Harder (f ∷ fs) ns ms → Harder fs ns ms
  harder-later f fs no_name = no_name
  harder-later f fs (same_name n e h) = same_name n e (harder-later f fs h)
  harder-later f fs (harder x e d h) = harder x e (found-later (bytes_eq f.name x) (sought fs x) f.symbol d) (harder-later f fs h)

  -- A NAME THAT IS NONE OF THEM and theirs

  no-clash : (b c : Bool) → not b ≡ true → b ≡ true → c ≡ false
  no-clash true c e d = absurd (cc e)
  no-clash false c e d = absurd (cc d)

  -- the parts of being the same
  record SameParts (n m : Name) : Type 0 where
    space : (namespace_number m.namespace == namespace_number n.namespace) ≡ true
    owner : (m.owner == n.owner) ≡ true
    text : bytes_eq m.text n.text ≡ true

  same-parts : (n m : Name) → is_same_name n.namespace n.owner n.text m ≡ true → SameParts n m
  same-parts n m e =
      let p = and_parts (namespace_number m.namespace == namespace_number n.namespace && m.owner == n.owner) (bytes_eq m.text n.text) e in
      let q = and_parts (namespace_number m.namespace == namespace_number n.namespace) (m.owner == n.owner) p.0 in
      record { space = q.0; owner = q.1; text = p.1 }

  space-first : (s : Namespace) → (0 == namespace_number s) ≡ true → is_scope_space s ≡ true
  space-first Scope e = refl
  space-first _ e = absurd (cc e)

  space-last : (s : Namespace) → (namespace_number s == 0) ≡ true → is_scope_space s ≡ true
  space-last Scope e = refl
  space-last _ e = absurd (cc e)

  -- one that isn't lexical is another
  other-first : (x : Text) (b : Bool) (n : Name) → bound_by all x ≡ true → Fine is_other n → n.lexical ≡ false → is_same_name n.namespace n.owner n.text (scope_name x b) ≡ false
  other-first x b n e f weak = at (is_same_name n.namespace n.owner n.text (scope_name x b)) refl
    where
      at : (c : Bool) → is_same_name n.namespace n.owner n.text (scope_name x b) ≡ c → c ≡ false
      at false d = refl
      at true d =
          let p = same-parts n (scope_name x b) d in
          let ok = f (space-first n.namespace p.space) weak (ap (λ m. m == 1) (sym (eqb-true 1 n.owner p.owner))) in
          no-clash (bound_by all n.text) true ok (ap (λ y. bound_by all y) (sym (bytes_eq-equal x n.text p.text)) ∙ e)

  other-last : (x : Text) (b : Bool) (n : Name) → bound_by all x ≡ true → Fine is_other n → n.lexical ≡ false → is_same_name Scope 1 x n ≡ false
  other-last x b n e f weak = at (is_same_name Scope 1 x n) refl
    where
      at : (c : Bool) → is_same_name Scope 1 x n ≡ c → c ≡ false
      at false d = refl
      at true d =
          let p = same-parts (scope_name x b) n d in
          let ok = f (space-last n.namespace p.space) weak p.owner in
          no-clash (bound_by all n.text) true ok (ap (λ y. bound_by all y) (bytes_eq-equal n.text x p.text) ∙ e)

  -- CLASHES

  -- of one that is lexical nothing changes
  same-clash : (a b : Bool) → (b ≡ false → a ≡ false) → (a && (false || b)) ≡ false → (a && true) ≡ false
  same-clash true true h e = e
  same-clash true false h e = h refl
  same-clash false b h e = refl

  old-clashes : (n : Name) → Fine is_other n → {fs : List Bound} {ns ms : List Name} → Harder fs ns ms → clashes ns n ≡ false → clashes ms n ≡ false
  old-clashes n f no_name h = h
  old-clashes n f (same_name {ns = ns} {ms = ms} m g w) h = or-none _ (clashes ms n) (left-none _ (clashes ns n) h) (old-clashes n f w (right-none _ (clashes ns n) h))
  old-clashes n f (harder {ns = ns} {ms = ms} x e d w) h =
      or-none _ (clashes ms n) (same-clash (is_same_name n.namespace n.owner n.text (scope_name x true)) n.lexical (λ q. other-first x true n e f q) (left-none _ (clashes ns n) h)) (old-clashes n f w (right-none _ (clashes ns n) h))

  new-clash : (a b : Bool) → (b ≡ false → a ≡ false) → (a && (b || false)) ≡ false → (a && (b || true)) ≡ false
  new-clash true true h e = e
  new-clash true false h e = h refl
  new-clash false b h e = refl

  bytes-turned : (x y : Text) → bytes_eq x y ≡ false → bytes_eq y x ≡ false
  bytes-turned x y e = at (bytes_eq y x) refl
    where
      at : (b : Bool) → bytes_eq y x ≡ b → b ≡ false
      at false d = refl
      at true d = absurd (cc (sym (ap (λ z. bytes_eq x z) (bytes_eq-equal y x d) ∙ bytes_eq-self x) ∙ e))

  -- a function's with none before
  new-clashes : (f : Bound) (fs : List Bound) → bound_by all f.name ≡ true → {ns ms : List Name} → Harder (f ∷ fs) ns ms → clashes ns (scope_name f.name false) ≡ false → clashes ms (scope_name f.name true) ≡ false
  new-clashes f fs e no_name h = h
  new-clashes f fs e (same_name {ns = ns} {ms = ms} m g w) h =
      or-none _ (clashes ms (scope_name f.name true)) (new-clash (is_same_name Scope 1 f.name m) m.lexical (λ q. other-last f.name true m e g q) (left-none _ (clashes ns (scope_name f.name false)) h)) (new-clashes f fs e w (right-none _ (clashes ns (scope_name f.name false)) h))
  new-clashes f fs e (harder {ns = ns} {ms = ms} x d q w) h =
      or-none _ (clashes ms (scope_name f.name true)) (ap (λ b. b && true) (bytes-turned f.name x (not-found (bytes_eq f.name x) (sought fs x) f.symbol q))) (new-clashes f fs e w (right-none _ (clashes ns (scope_name f.name false)) h))

  old-list : (g : List Name) → AllFine is_other g → {fs : List Bound} {ns ms : List Name} → Harder fs ns ms → list_any (λ n. clashes ns n) g ≡ false → list_any (λ n. clashes ms n) g ≡ false
  old-list [] f w h = refl
  old-list (n ∷ g) f {fs} {ns} {ms} w h = or-none (clashes ms n) (list_any (λ n. clashes ms n) g) (old-clashes n f.0 w (left-none (clashes ns n) (list_any (λ n. clashes ns n) g) h)) (old-list g f.1 w (right-none (clashes ns n) (list_any (λ n. clashes ns n) g) h))

  no-more : (b : Bool) → not b ≡ true → b ≡ false
  no-more true e = absurd (cc e)
  no-more false e = refl

  bolder-distinct : (used : Text → Bool) (fs : List Bound) → each_once fs ≡ true → {ns ms : List Name} → Harder fs ns ms → {gs hs : List (List Name)} → Bolder fs gs hs → Distinct used ns gs → Distinct used ms hs
  bolder-distinct used fs o w no_list d = tt
  bolder-distinct used fs o w (same_list g q r) d = (old-list g q w d.0, d.1, bolder-distinct used fs o (harder-list g q w) r d.2)
  bolder-distinct used _ o {ns} {ms} w (bolder {fs = fs} f e r) d =
      let once = and_parts (not (bound_by fs f.name)) (each_once fs) o in (
        or-none (clashes ms (scope_name f.name true)) false (new-clashes f fs e w (left-none (clashes ns (scope_name f.name false)) false d.0)) refl,
        d.1,
        bolder-distinct used fs once.1 (harder f.name e (no-more (bound_by fs f.name) once.0) (harder-later f fs w)) r d.2,
      )

  pub bolder-apart : (used : Text → Bool) (fs : List Bound) → each_once fs ≡ true → {gs hs : List (List Name)} → Bolder fs gs hs → Distinct used [] gs → Distinct used [] hs
  bolder-apart used fs o r d = bolder-distinct used fs o no_name r d
