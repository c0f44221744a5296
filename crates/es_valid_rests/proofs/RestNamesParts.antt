-- Lists of declared names of which a part stays: what didn't clash doesn't clash.
use Rattle.std.proofs.Common.{◌≡◌, refl, List, [], ◌∷◌, ◌++◌, map, cond}
use Rattle.std.specs.Prelude.{Bool, true, false}
use Rattle.std.specs.List.{list_any}
use Rattle.es_tree.specs.DeclaredNames.{Name, clashes}
use Rattle.es_tree.specs.Words.{Text}
use Rattle.es_valid_names.proofs.Claims.{AllUsed, Distinct, push}
use Rattle.es_valid_names.proofs.Grown.{left-none, or-none, right-none}

-- A PART of a list: the same, or, where some may go, some of it
pub data Part {X : Type 0} (loose : Bool) : List X → List X → Type 0 where
  none : Part loose [] []
  keep : {xs ys : List X} (x : X) → Part loose xs ys → Part loose (x ∷ xs) (x ∷ ys)
  drop : {xs ys : List X} (x : X) → loose ≡ true → Part loose xs ys → Part loose (x ∷ xs) ys

pub data Parts (loose : Bool) : List (List Name) → List (List Name) → Type 0 where
  no_list : Parts loose [] []
  list : {gs hs : List (List Name)} (g h : List Name) → Part loose g h → Parts loose gs hs → Parts loose (g ∷ gs) (h ∷ hs)
  gone : {gs hs : List (List Name)} (g : List Name) → loose ≡ true → Parts loose gs hs → Parts loose (g ∷ gs) hs

module _ {loose : Bool} where
  pub part-self : {X : Type 0} (xs : List X) → Part loose xs xs
  part-self [] = none
  part-self (x ∷ xs) = keep x (part-self xs)

  pub part-none : {X : Type 0} → loose ≡ true → (xs : List X) → Part loose xs []
  part-none e [] = none
  part-none e (x ∷ xs) = drop x e (part-none e xs)

  pub part-both : {X : Type 0} {xs ys zs ws : List X} → Part loose xs ys → Part loose zs ws → Part loose (xs ++ zs) (ys ++ ws)
  part-both none k = k
  part-both (keep x h) k = keep x (part-both h k)
  part-both (drop x e h) k = drop x e (part-both h k)

  pub part-map : {X Y : Type 0} (f : X → Y) {xs ys : List X} → Part loose xs ys → Part loose (map f xs) (map f ys)
  part-map f none = none
  part-map f (keep x h) = keep (f x) (part-map f h)
  part-map f (drop x e h) = drop (f x) e (part-map f h)

  -- one more that passes a test or not
  pub part-cond : {X : Type 0} (b : Bool) (x : X) {xs ys : List X} → Part loose xs ys → Part loose (cond b (x ∷ xs) xs) (cond b (x ∷ ys) ys)
  part-cond true x h = keep x h
  part-cond false x h = h

  pub parts-self : (gs : List (List Name)) → Parts loose gs gs
  parts-self [] = no_list
  parts-self (g ∷ gs) = list g g (part-self g) (parts-self gs)

  pub parts-both : {gs hs ks ls : List (List Name)} → Parts loose gs hs → Parts loose ks ls → Parts loose (gs ++ ks) (hs ++ ls)
  parts-both no_list k = k
  parts-both (list g h p r) k = list g h p (parts-both r k)
  parts-both (gone g e r) k = gone g e (parts-both r k)

  pub parts-none : loose ≡ true → (gs : List (List Name)) → Parts loose gs []
  parts-none e [] = no_list
  parts-none e (g ∷ gs) = gone g e (parts-none e gs)

  pub parts-push : {g h : List Name} {gs hs : List (List Name)} → Part loose g h → Parts loose gs hs → Parts loose (push g gs) (push h hs)
  parts-push none r = r
  parts-push (keep {xs = xs} {ys = ys} x p) r = list (x ∷ xs) (x ∷ ys) (keep x p) r
  parts-push (drop {xs = xs} {ys = []} x e p) r = gone (x ∷ xs) e r
  parts-push (drop {xs = xs} {ys = y ∷ ys} x e p) r = list (x ∷ xs) (y ∷ ys) (drop x e p) r

-- where none may go all stay

pub same-part : {X : Type 0} {xs ys : List X} → Part false xs ys → ys ≡ xs
same-part none = refl
same-part (keep x h) = λ i. x ∷ same-part h i
same-part (drop x e h) = absurd (cc e)

pub same-parts : {gs hs : List (List Name)} → Parts false gs hs → hs ≡ gs
same-parts no_list = refl
same-parts (list g h p r) = λ i. same-part p i ∷ same-parts r i
same-parts (gone g e r) = absurd (cc e)

-- CLASHES

module _ {loose : Bool} where
  fewer-clashes : (n : Name) {ns ms : List Name} → Part loose ns ms → clashes ns n ≡ false → clashes ms n ≡ false
  fewer-clashes n none e = refl
  fewer-clashes n (keep {xs = xs} {ys = ys} m h) e = or-none _ (clashes ys n) (left-none _ (clashes xs n) e) (fewer-clashes n h (right-none _ (clashes xs n) e))
  fewer-clashes n (drop {xs = xs} m d h) e = fewer-clashes n h (right-none _ (clashes xs n) e)

  fewer-any : {ns ms : List Name} → Part loose ns ms → {g h : List Name} → Part loose g h → list_any (λ n. clashes ns n) g ≡ false → list_any (λ n. clashes ms n) h ≡ false
  fewer-any p none e = refl
  fewer-any {ns} {ms} p (keep {xs = g} {ys = h} n q) e = or-none (clashes ms n) (list_any (λ m. clashes ms m) h) (fewer-clashes n p (left-none (clashes ns n) (list_any (λ m. clashes ns m) g) e)) (fewer-any p q (right-none (clashes ns n) (list_any (λ m. clashes ns m) g) e))
  fewer-any {ns} {ms} p (drop {xs = g} n d q) e = fewer-any p q (right-none (clashes ns n) (list_any (λ m. clashes ns m) g) e)

  fewer-used : (used : Text → Bool) {g h : List Name} → Part loose g h → AllUsed used g → AllUsed used h
  fewer-used used none u = tt
  fewer-used used (keep n p) u = (u.0, fewer-used used p u.1)
  fewer-used used (drop n e p) u = fewer-used used p u.1

  dropped : loose ≡ true → (g : List Name) {ns ms : List Name} → Part loose ns ms → Part loose (g ++ ns) ms
  dropped e [] p = p
  dropped e (n ∷ g) p = drop n e (dropped e g p)

  distinct-parts : (used : Text → Bool) {ns ms : List Name} → Part loose ns ms → {gs hs : List (List Name)} → Parts loose gs hs → Distinct used ns gs → Distinct used ms hs
  distinct-parts used p no_list d = tt
  distinct-parts used p (list g h q r) d = (fewer-any p q d.0, fewer-used used q d.1, distinct-parts used (part-both q p) r d.2)
  distinct-parts used p (gone g e r) d = distinct-parts used (dropped e g p) r d.2

  pub parts-distinct : (used : Text → Bool) {gs hs : List (List Name)} → Parts loose gs hs → Distinct used [] gs → Distinct used [] hs
  parts-distinct used r d = distinct-parts used none r d
