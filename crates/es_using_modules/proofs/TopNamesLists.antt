-- Lists of declared names, one for each node, that fall into two: those of the second become names of `var`, and fresh ones come to them. Nothing clashes that
-- didn't clash, and what was declared is.
use Rattle.std.proofs.Common.{◌≡◌, inl, inr, refl, ◌∙◌, List, [], ◌∷◌, ◌++◌}
use Rattle.std.specs.Prelude.{◌⊎◌, Bool, true, false, not, ◌&&◌, ◌||◌}
use Rattle.std.specs.List.{list_any}
use Rattle.es_tree.specs.DeclaredNames.{Name, clashes, is_same_name, name}
use Rattle.es_tree.specs.Words.{Text}
use Rattle.es_tree.specs.declared.place.Namespace.TheVariants.{Scope}
use Rattle.es_valid_names.proofs.Claims.{AllUsed, Distinct, is_scope_space, is_used, joined}
use Rattle.es_valid_names.proofs.Grown.{left-none, new-same, or-none, right-none}
use Rattle.es_valid_names.proofs.Owners.{any-append}
use Rattle.es_valid_rests.proofs.RestNamesInserted.{same-flip}

-- EACH of a list

abbrev Each : {X : Type 0} → (X → Type 0) → List X → Type 0
Each P [] = Unit {0}
Each P (x ∷ xs) = P x × Each P xs

module _ {X : Type 0} (P : X → Type 0) where
  each-both : (xs ys : List X) → Each P xs → Each P ys → Each P (xs ++ ys)
  each-both [] ys h k = k
  each-both (x ∷ xs) ys h k = (h.0, each-both xs ys h.1 k)

  each-first : (xs ys : List X) → Each P (xs ++ ys) → Each P xs
  each-first [] ys h = tt
  each-first (x ∷ xs) ys h = (h.0, each-first xs ys h.1)

  each-last : (xs ys : List X) → Each P (xs ++ ys) → Each P ys
  each-last [] ys h = h
  each-last (x ∷ xs) ys h = each-last xs ys h.1

  each-map : (Q : X → Type 0) → ((x : X) → P x → Q x) → (xs : List X) → Each P xs → Each Q xs
  each-map Q f [] h = tt
  each-map Q f (x ∷ xs) h = (f x h.0, each-map Q f xs h.1)

  each-two : (Q S : X → Type 0) → ((x : X) → P x → Q x → S x) → (xs : List X) → Each P xs → Each Q xs → Each S xs
  each-two Q S f [] h k = tt
  each-two Q S f (x ∷ xs) h k = (f x h.0 k.0, each-two Q S f xs h.1 k.1)

-- CLASHES of two names

abbrev Hits : Name → Name → Bool
Hits e n = is_same_name n.namespace n.owner n.text e && (e.lexical || n.lexical)

hits-flip : (e n : Name) → Hits n e ≡ Hits e n
hits-flip e n = λ i. same-flip n e i && or-flip n.lexical e.lexical i
  where
    or-flip : (a b : Bool) → (a || b) ≡ (b || a)
    or-flip true true = refl
    or-flip true false = refl
    or-flip false true = refl
    or-flip false false = refl

abbrev Miss : Name → Name → Type 0
Miss e n = Hits e n ≡ false

-- no name of the second clashes with one of the first
abbrev Apart : List Name → List Name → Type 0
Apart g h = Each (λ n. Each (λ e. Miss e n) g) h

apart-first : (e : Name) (g h : List Name) → Apart (e ∷ g) h → Each (λ n. Miss n e) h
apart-first e g [] a = tt
apart-first e g (n ∷ h) a = (hits-flip e n ∙ a.0.0, apart-first e g h a.1)

apart-rest : (e : Name) (g h : List Name) → Apart (e ∷ g) h → Apart g h
apart-rest e g [] a = tt
apart-rest e g (n ∷ h) a = (a.0.1, apart-rest e g h a.1)

apart-flip : (g h : List Name) → Apart g h → Apart h g
apart-flip [] h a = tt
apart-flip (e ∷ g) h a = (apart-first e g h a, apart-flip g h (apart-rest e g h a))

abbrev Against : List Name → List (List Name) → Type 0
Against g hs = Each (λ h. Apart g h) hs

abbrev Pairwise : List (List Name) → Type 0
Pairwise [] = Unit {0}
Pairwise (g ∷ gs) = Against g gs × Pairwise gs

-- DISTINCT lists

no-clash : (es : List Name) (n : Name) → clashes es n ≡ false → Each (λ e. Miss e n) es
no-clash [] n h = tt
no-clash (e ∷ es) n h = (left-none (Hits e n) (clashes es n) h, no-clash es n (right-none (Hits e n) (clashes es n) h))

clash-none : (es : List Name) (n : Name) → Each (λ e. Miss e n) es → clashes es n ≡ false
clash-none [] n h = refl
clash-none (e ∷ es) n h = or-none (Hits e n) (clashes es n) h.0 (clash-none es n h.1)

no-clashes : (es g : List Name) → list_any (λ n. clashes es n) g ≡ false → Apart es g
no-clashes es [] h = tt
no-clashes es (n ∷ g) h = (no-clash es n (left-none (clashes es n) _ h), no-clashes es g (right-none (clashes es n) _ h))

clashes-none : (es g : List Name) → Apart es g → list_any (λ n. clashes es n) g ≡ false
clashes-none es [] h = refl
clashes-none es (n ∷ g) h = or-none (clashes es n) _ (clash-none es n h.0) (clashes-none es g h.1)

apart-left : (g es h : List Name) → Apart (g ++ es) h → Apart g h
apart-left g es h a = each-map (λ n. Each (λ e. Miss e n) (g ++ es)) (λ n. Each (λ e. Miss e n) g) (λ n k. each-first (λ e. Miss e n) g es k) h a

apart-right : (g es h : List Name) → Apart (g ++ es) h → Apart es h
apart-right g es h a = each-map (λ n. Each (λ e. Miss e n) (g ++ es)) (λ n. Each (λ e. Miss e n) es) (λ n k. each-last (λ e. Miss e n) g es k) h a

apart-both : (g es h : List Name) → Apart g h → Apart es h → Apart (g ++ es) h
apart-both g es h a b = each-two (λ n. Each (λ e. Miss e n) g) (λ n. Each (λ e. Miss e n) es) (λ n. Each (λ e. Miss e n) (g ++ es)) (λ n j k. each-both (λ e. Miss e n) g es j k) h a b

module _ (used : Text → Bool) where
  abbrev Known : List (List Name) → Type 0
  Known gs = Each (λ g. AllUsed used g) gs

  record Distinctly (es : List Name) (gs : List (List Name)) : Type 0 where
    known : Known gs
    against : Against es gs
    pairwise : Pairwise gs

  from-distinct : (es : List Name) (gs : List (List Name)) → Distinct used es gs → Distinctly es gs
  from-distinct es [] d = record { known = tt; against = tt; pairwise = tt }
  from-distinct es (g ∷ gs) d =
      let r = from-distinct (g ++ es) gs d.2 in
      record {
        known = (d.1, r.known);
        against = (no-clashes es g d.0, each-map (λ h. Apart (g ++ es) h) (λ h. Apart es h) (λ h a. apart-right g es h a) gs r.against);
        pairwise = (each-map (λ h. Apart (g ++ es) h) (λ h. Apart g h) (λ h a. apart-left g es h a) gs r.against, r.pairwise);
      }

-- where all names are in use
abbrev pub anything : Text → Bool
anything x = true

any-used : (g : List Name) → AllUsed anything g
any-used [] = tt
any-used (n ∷ g) = (any (not (is_scope_space n.namespace)), any-used g)
  where
    any : (b : Bool) → (b || true) ≡ true
    any true = refl
    any false = refl

to-distinct : (es : List Name) (gs : List (List Name)) → Against es gs → Pairwise gs → Distinct anything es gs
to-distinct es [] a p = tt
to-distinct es (g ∷ gs) a p = (clashes-none es g a.0, any-used g, to-distinct (g ++ es) gs (each-two (λ h. Apart g h) (λ h. Apart es h) (λ h. Apart (g ++ es) h) (λ h j k. apart-both g es h j k) gs p.0 a.1) p.1)

-- WHAT BECOMES of a list: it stays, or its name is one of `var`

abbrev pub by_scope : Text → Bool → List Name
by_scope x b = name Scope 1 x b ∷ []

pub data Soft : List Name → List Name → Type 0 where
  same : (g : List Name) → Soft g g
  softer : (x : Text) (b : Bool) → Soft (by_scope x b) (by_scope x false)

soft-apart : (g h k : List Name) → Soft g h → Apart g k → Apart h k
soft-apart g h k (same f) a = a
soft-apart g h k (softer x b) a = each-map (λ n. Each (λ e. Miss e n) (by_scope x b)) (λ n. Each (λ e. Miss e n) (by_scope x false)) (λ n j. (less (is_same_name n.namespace n.owner n.text (name Scope 1 x b)) b n.lexical j.0, tt)) k a
  where
    less : (s v w : Bool) → (s && (v || w)) ≡ false → (s && (false || w)) ≡ false
    less true true w e = absurd (let no : true ≡ false = e in cc no)
    less true false w e = e
    less false v w e = refl

-- THE TWO HALVES, with fresh names in the second

pub data Sorts (used : Text → Bool) : List (List Name) → List (List Name) → List (List Name) → Type 0 where
  no_list : Sorts used [] [] []
  stays : {gs ls rs : List (List Name)} (g : List Name) → Sorts used gs ls rs → Sorts used (g ∷ gs) (g ∷ ls) rs
  moves : {gs ls rs : List (List Name)} {g h : List Name} → Soft g h → Sorts used gs ls rs → Sorts used (g ∷ gs) ls (h ∷ rs)
  comes : {gs ls rs : List (List Name)} (x : Text) → used x ≡ false → Sorts used gs ls rs → Sorts used gs ls (by_scope x false ∷ rs)

module _ (used : Text → Bool) where
  pub sorts-stay : (gs : List (List Name)) {hs ls rs : List (List Name)} → Sorts used hs ls rs → Sorts used (gs ++ hs) (gs ++ ls) rs
  sorts-stay [] s = s
  sorts-stay (g ∷ gs) s = stays g (sorts-stay gs s)

  pub sorts-move : (gs : List (List Name)) {hs ls rs : List (List Name)} → Sorts used hs ls rs → Sorts used (gs ++ hs) ls (gs ++ rs)
  sorts-move [] s = s
  sorts-move (g ∷ gs) s = moves (same g) (sorts-move gs s)

  -- a name that is in use, or is one of `var`
  abbrev Fine : Name → Type 0
  Fine n = (is_used used n ≡ true) ⊎ (n.lexical ≡ false)

  fine-used : (g : List Name) → AllUsed used g → Each Fine g
  fine-used [] u = tt
  fine-used (n ∷ g) u = (inl u.0, fine-used g u.1)

  abbrev FineLists : List (List Name) → Type 0
  FineLists gs = Each (λ g. Each Fine g) gs

  record BothFine (ls rs : List (List Name)) : Type 0 where
    first : FineLists ls
    second : FineLists rs

  soft-fine : (g h : List Name) → Soft g h → AllUsed used g → Each Fine h
  soft-fine g h (same f) u = fine-used f u
  soft-fine g h (softer x b) u = (inr refl, tt)

  both-fine : {gs ls rs : List (List Name)} → Sorts used gs ls rs → Known used gs → BothFine ls rs
  both-fine no_list u = record { first = tt; second = tt }
  both-fine (stays g s) u = let r = both-fine s u.1 in record { first = (fine-used g u.0, r.first); second = r.second }
  both-fine (moves {g = g} {h = h} t s) u = let r = both-fine s u.1 in record { first = r.first; second = (soft-fine g h t u.0, r.second) }
  both-fine (comes x e s) u = let r = both-fine s u in record { first = r.first; second = ((inr refl, tt), r.second) }

  -- a fresh name clashes with none of those
  module _ (x : Text) (free : used x ≡ false) where
    abbrev n : Name
    n = name Scope 1 x false

    fresh-misses : (m : Name) → Fine m → Miss n m
    fresh-misses m (inl u) = hits-flip m n ∙ (λ i. new-same used n m refl free u i && (m.lexical || false))
    fresh-misses m (inr w) = (λ i. is_same_name m.namespace m.owner m.text n && w i) ∙ never (is_same_name m.namespace m.owner m.text n)
      where
        never : (b : Bool) → (b && false) ≡ false
        never true = refl
        never false = refl

    fresh-against : (hs : List (List Name)) → FineLists hs → Against (by_scope x false) hs
    fresh-against hs f = each-map (λ h. Each Fine h) (λ h. Apart (by_scope x false) h) (λ h k. each-map Fine (λ m. Each (λ e. Miss e m) (by_scope x false)) (λ m j. (fresh-misses m j, tt)) h k) hs f

    fresh-after : (g : List Name) → Each Fine g → Apart g (by_scope x false)
    fresh-after g f = apart-flip (by_scope x false) g (each-map Fine (λ m. Each (λ e. Miss e m) (by_scope x false)) (λ m j. (fresh-misses m j, tt)) g f)

  record BothAgainst (g : List Name) (ls rs : List (List Name)) : Type 0 where
    first : Against g ls
    second : Against g rs

  both-against : (g : List Name) → AllUsed used g → {gs ls rs : List (List Name)} → Sorts used gs ls rs → Against g gs → BothAgainst g ls rs
  both-against g u no_list a = record { first = tt; second = tt }
  both-against g u (stays f s) a = let r = both-against g u s a.1 in record { first = (a.0, r.first); second = r.second }
  both-against g u (moves {g = f} {h = h} t s) a = let r = both-against g u s a.1 in record { first = r.first; second = (apart-flip h g (soft-apart f h g t (apart-flip g f a.0)), r.second) }
  both-against g u (comes x e s) a = let r = both-against g u s a in record { first = r.first; second = (fresh-after x e g (fine-used g u), r.second) }

  insert : (h : List Name) (ls rs : List (List Name)) → Against h ls → Against h rs → Pairwise (ls ++ rs) → Pairwise (ls ++ (h ∷ rs))
  insert h [] rs a b p = (b, p)
  insert h (f ∷ ls) rs a b p = (each-both (λ k. Apart f k) ls (h ∷ rs) (each-first (λ k. Apart f k) ls rs p.0) (apart-flip h f a.0, each-last (λ k. Apart f k) ls rs p.0), insert h ls rs a.1 b p.1)

  soft-against : (g h : List Name) → Soft g h → (ks : List (List Name)) → Against g ks → Against h ks
  soft-against g h t ks a = each-map (λ k. Apart g k) (λ k. Apart h k) (λ k j. soft-apart g h k t j) ks a

  sorts-pairwise : {gs ls rs : List (List Name)} → Sorts used gs ls rs → Known used gs → Pairwise gs → Pairwise (ls ++ rs)
  sorts-pairwise no_list u p = tt
  sorts-pairwise (stays {ls = ls} {rs = rs} g s) u p = let r = both-against g u.0 s p.0 in (each-both (λ k. Apart g k) ls rs r.first r.second, sorts-pairwise s u.1 p.1)
  sorts-pairwise (moves {ls = ls} {rs = rs} {g = g} {h = h} t s) u p = let r = both-against g u.0 s p.0 in insert h ls rs (soft-against g h t ls r.first) (soft-against g h t rs r.second) (sorts-pairwise s u.1 p.1)
  sorts-pairwise (comes {ls = ls} {rs = rs} x e s) u p = let f = both-fine s u in insert (by_scope x false) ls rs (fresh-against x e ls f.first) (fresh-against x e rs f.second) (sorts-pairwise s u p)

  against-none : (gs : List (List Name)) → Against [] gs
  against-none [] = tt
  against-none (g ∷ gs) = (each-none g, against-none gs)
    where
      each-none : (g : List Name) → Apart [] g
      each-none [] = tt
      each-none (n ∷ g) = (tt, each-none g)

  -- NOTHING CLASHES in both, and so in the second alone
  pub sorts-apart : {gs ls rs : List (List Name)} → Sorts used gs ls rs → Distinct used [] gs → Distinct anything [] (ls ++ rs)
  sorts-apart {gs} {ls} {rs} s d = let r = from-distinct used [] gs d in to-distinct [] (ls ++ rs) (against-none (ls ++ rs)) (sorts-pairwise s r.known r.pairwise)

  pub second-apart : {gs ls rs : List (List Name)} → Sorts used gs ls rs → Distinct used [] gs → Distinct anything [] rs
  second-apart {gs} {ls} {rs} s d = let r = from-distinct used [] gs d in to-distinct [] rs (against-none rs) (pairwise-last ls rs (sorts-pairwise s r.known r.pairwise))
    where
      pairwise-last : (ls rs : List (List Name)) → Pairwise (ls ++ rs) → Pairwise rs
      pairwise-last [] rs p = p
      pairwise-last (a ∷ ls) rs p = pairwise-last ls rs p.1

-- WHAT IS FOUND

abbrev pub any_list : (Name → Bool) → List (List Name) → Bool
any_list p gs = list_any (λ g. list_any p g) gs

module _ (p : Name → Bool) where
  pub joined-any : (gs : List (List Name)) (ns : List Name) → list_any p (joined gs ns) ≡ (any_list p gs || list_any p ns)
  joined-any [] ns = refl
  joined-any (g ∷ gs) ns = joined-any gs (g ++ ns) ∙ (λ i. any_list p gs || any-append p g ns i) ∙ turned (any_list p gs) (list_any p g) (list_any p ns)
    where
      turned : (a b c : Bool) → (a || (b || c)) ≡ ((b || a) || c)
      turned true true c = refl
      turned true false c = refl
      turned false true c = refl
      turned false false c = refl

  pub lists-append : (gs hs : List (List Name)) → any_list p (gs ++ hs) ≡ (any_list p gs || any_list p hs)
  lists-append [] hs = refl
  lists-append (g ∷ gs) hs = (λ i. list_any p g || lists-append gs hs i) ∙ grouped (list_any p g) (any_list p gs) (any_list p hs)
    where
      grouped : (a b c : Bool) → (a || (b || c)) ≡ ((a || b) || c)
      grouped true b c = refl
      grouped false b c = refl

-- whatever asks neither whether a name is lexical
module _ (used : Text → Bool) (x : Text) where
  abbrev Found : List (List Name) → Bool
  Found gs = any_list (is_same_name Scope 1 x) gs

  pub sorts-found : {gs ls rs : List (List Name)} → Sorts used gs ls rs → Found gs ≡ true → (Found ls || Found rs) ≡ true
  sorts-found no_list e = e
  sorts-found (stays {gs = gs} {ls = ls} {rs = rs} g s) e = first (list_any (is_same_name Scope 1 x) g) (Found gs) (Found ls) (Found rs) (sorts-found s) e
    where
      first : (a b c d : Bool) → (b ≡ true → (c || d) ≡ true) → (a || b) ≡ true → ((a || c) || d) ≡ true
      first true b c d f e = refl
      first false b c d f e = f e
  sorts-found (moves {gs = gs} {ls = ls} {rs = rs} {g = g} {h = h} t s) e = second (list_any (is_same_name Scope 1 x) g) (list_any (is_same_name Scope 1 x) h) (Found gs) (Found ls) (Found rs) (soft-same t) (sorts-found s) e
    where
      soft-same : {g h : List Name} → Soft g h → list_any (is_same_name Scope 1 x) h ≡ list_any (is_same_name Scope 1 x) g
      soft-same (same f) = refl
      soft-same (softer y b) = refl

      second : (a v b c d : Bool) → v ≡ a → (b ≡ true → (c || d) ≡ true) → (a || b) ≡ true → (c || (v || d)) ≡ true
      second true true b true d q f e = refl
      second true true b false d q f e = refl
      second true false b c d q f e = absurd (let no : false ≡ true = q in cc no)
      second false true b c d q f e = absurd (let no : true ≡ false = q in cc no)
      second false false b c d q f e = f e
  sorts-found (comes {gs = gs} {ls = ls} {rs = rs} y u s) e = third (list_any (is_same_name Scope 1 x) (by_scope y false)) (Found ls) (Found rs) (sorts-found s e)
    where
      third : (v c d : Bool) → (c || d) ≡ true → (c || (v || d)) ≡ true
      third v true d e = refl
      third true false d e = refl
      third false false d e = e
