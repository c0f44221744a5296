-- Names of the node with one number, among all that visits declare.
use Rattle.std.proofs.Common.{◌≡◌, ◌==◌, ℕ, refl, sym, ap, subst, ◌∙◌, List, [], ◌∷◌, ◌++◌, cond, eq-eqb}
use Rattle.std.specs.Prelude.{Bool, true, false, not, ◌&&◌, ◌||◌, if◌then◌else◌, bytes_eq}
use Rattle.std.specs.List.{list_any}
use Rattle.std.proofs.lemmas.Bool.{eqb-true, ne_eqb}
use Rattle.es_tree.specs.Ancestors.{Visit}
use Rattle.es_tree.specs.DeclaredNames.{Name, clashes, declared, is_same_name, namespace_number}
use Rattle.es_tree.specs.StaticRules.{declared_by, is_export_space}
use Rattle.es_tree.specs.Words.{Text}
use Rattle.es_tree.specs.declared.place.Namespace.{Namespace}
use Rattle.es_tree.specs.declared.place.Namespace.TheVariants.{Constructors, Exports, FirstSlot, FourthSlot, Parameters, PrivateNames, Scope, SecondSlot, ThirdSlot}
use Rattle.es_valid_names.proofs.Claims.{AllUsed, Distinct, is_owned, is_used, joined, push}
use Rattle.es_valid_names.proofs.Grown.{left-none, right-none, or-none}
use Rattle.es_valid_names.proofs.Numbers.{pick, pick-both, renamed}
use Rattle.es_valid_names.proofs.Visited.{groups}

-- the node with this number is looked at, and no other
abbrev pub only : ℕ → ℕ → ℕ
only m j = if j == m then 1 else 0

pub only-it : (m : ℕ) → only m m ≡ 1
only-it m = λ i. if eq-eqb m m refl i then 1 else 0

pub only-other : (m j : ℕ) → (j ≡ m → ⊥) → only m j ≡ 0
only-other m j h = λ i. if ne_eqb j m h i then 1 else 0

pub other-only : (m j : ℕ) → (j ≡ m → ⊥) → (only m j == 1) ≡ false
other-only m j h = λ i. only-other m j h i == 1

only-back : (m j : ℕ) → (only m j == 1) ≡ true → j ≡ m
only-back m j e = at (j == m) refl e
  where
    at : (b : Bool) → (j == m) ≡ b → ((if b then 1 else 0) == 1) ≡ true → j ≡ m
    at true d e = eqb-true j m d
    at false d e = absurd (cc e)

pub any-append : (p : Name → Bool) (xs ys : List Name) → list_any p (xs ++ ys) ≡ (list_any p xs || list_any p ys)
any-append p [] ys = refl
any-append p (x ∷ xs) ys = (λ i. p x || any-append p xs ys i) ∙ at (p x) (list_any p xs) (list_any p ys)
  where
    at : (a b c : Bool) → (a || (b || c)) ≡ (a || b || c)
    at true b c = refl
    at false b c = refl

-- what is exported is in no other namespace
apart-spaces : (k s : Namespace) → is_export_space k ≡ true → is_export_space s ≡ false → (namespace_number k == namespace_number s) ≡ false
apart-spaces Exports Exports e d = absurd (cc d)
apart-spaces Exports Scope e d = refl
apart-spaces Exports Parameters e d = refl
apart-spaces Exports PrivateNames e d = refl
apart-spaces Exports FirstSlot e d = refl
apart-spaces Exports SecondSlot e d = refl
apart-spaces Exports ThirdSlot e d = refl
apart-spaces Exports FourthSlot e d = refl
apart-spaces Exports Constructors e d = refl
apart-spaces _ s e d = absurd (cc e)

pub spaces-apart : (k s : Namespace) → is_export_space k ≡ false → is_export_space s ≡ true → (namespace_number k == namespace_number s) ≡ false
spaces-apart Scope Exports e d = refl
spaces-apart Parameters Exports e d = refl
spaces-apart PrivateNames Exports e d = refl
spaces-apart FirstSlot Exports e d = refl
spaces-apart SecondSlot Exports e d = refl
spaces-apart ThirdSlot Exports e d = refl
spaces-apart FourthSlot Exports e d = refl
spaces-apart Constructors Exports e d = refl
spaces-apart Exports s e d = absurd (cc e)
spaces-apart _ _ e d = absurd (cc d)

pub never-first : (a b c : Bool) → a ≡ false → (a && b && c) ≡ false
never-first true b c e = absurd (cc e)
never-first false b c e = refl

never-second : (a b c : Bool) → b ≡ false → (a && b && c) ≡ false
never-second true true c e = absurd (cc e)
never-second true false c e = refl
never-second false b c e = refl

module _ (m : ℕ) where
  -- FOUND: a name of a namespace of the node

  found-one : (s : Namespace) (x : Text) → is_export_space s ≡ false → (n : Name) (a b : Bool) → a ≡ b → (is_same_name s m x n || a) ≡ cond (is_owned (renamed (only m) n)) (is_same_name s 1 x (renamed (only m) n) || b) b
  found-one s x fine n a b e = at (is_export_space n.namespace) refl
    where
      exported : is_export_space n.namespace ≡ true → (c : Bool) → (is_same_name s m x n || a) ≡ cond c (is_same_name s 1 x n || b) b
      exported d true = (λ i. never-first (namespace_number n.namespace == namespace_number s) (n.owner == m) (bytes_eq n.text x) (apart-spaces n.namespace s d fine) i || e i) ∙ (λ i. sym (never-first (namespace_number n.namespace == namespace_number s) (n.owner == 1) (bytes_eq n.text x) (apart-spaces n.namespace s d fine)) i || b)
      exported d false = λ i. never-first (namespace_number n.namespace == namespace_number s) (n.owner == m) (bytes_eq n.text x) (apart-spaces n.namespace s d fine) i || e i

      plain : (c : Bool) → (n.owner == m) ≡ c → (namespace_number n.namespace == namespace_number s && n.owner == m && bytes_eq n.text x || a) ≡ cond ((if c then 1 else 0) == 1) (namespace_number n.namespace == namespace_number s && (if c then 1 else 0) == 1 && bytes_eq n.text x || b) b
      plain true d = λ i. namespace_number n.namespace == namespace_number s && d i && bytes_eq n.text x || e i
      plain false d = λ i. never-second (namespace_number n.namespace == namespace_number s) (n.owner == m) (bytes_eq n.text x) d i || e i

      at : (v : Bool) → is_export_space n.namespace ≡ v → (is_same_name s m x n || a) ≡ cond (is_owned (if v then n else record n { owner = only m n.owner })) (is_same_name s 1 x (if v then n else record n { owner = only m n.owner }) || b) b
      at true d = exported d (is_owned n)
      at false d = plain (n.owner == m) refl

  found-pick : (s : Namespace) (x : Text) → is_export_space s ≡ false → (ns : List Name) → list_any (is_same_name s m x) ns ≡ list_any (is_same_name s 1 x) (pick (only m) ns)
  found-pick s x fine [] = refl
  found-pick s x fine (n ∷ ns) = found-one s x fine n (list_any (is_same_name s m x) ns) (list_any (is_same_name s 1 x) (pick (only m) ns)) (found-pick s x fine ns) ∙ out (is_owned (renamed (only m) n))
    where
      out : (c : Bool) → cond c (is_same_name s 1 x (renamed (only m) n) || list_any (is_same_name s 1 x) (pick (only m) ns)) (list_any (is_same_name s 1 x) (pick (only m) ns)) ≡ list_any (is_same_name s 1 x) (cond c (renamed (only m) n ∷ pick (only m) ns) (pick (only m) ns))
      out true = refl
      out false = refl

  joined-push : (g : List Name) (gs : List (List Name)) (ms : List Name) → joined gs (g ++ ms) ≡ joined (push g gs) ms
  joined-push [] gs ms = refl
  joined-push (n ∷ ns) gs ms = refl

  pub found-groups : (s : Namespace) (x : Text) → is_export_space s ≡ false → (vs : List Visit) (ns ms : List Name) → list_any (is_same_name s m x) ns ≡ list_any (is_same_name s 1 x) ms → list_any (is_same_name s m x) (declared_by vs ns) ≡ list_any (is_same_name s 1 x) (joined (groups (only m) vs) ms)
  found-groups s x fine [] ns ms e = e
  found-groups s x fine (v ∷ vs) ns ms e =
      let d = declared v.ancestors v.tree in
      found-groups s x fine vs (d ++ ns) (pick (only m) d ++ ms) (any-append (is_same_name s m x) d ns ∙ (λ i. found-pick s x fine d i || e i) ∙ sym (any-append (is_same_name s 1 x) (pick (only m) d) ms))
      ∙ ap (λ ks. list_any (is_same_name s 1 x) ks) (joined-push (pick (only m) d) (groups (only m) vs) ms)

  -- CLASHES

  module _ (s : Namespace) (x : Text) (b : Bool) (fine : is_export_space s ≡ false) where
    abbrev Hits : ℕ → Name → Bool
    Hits o e = is_same_name s o x e && (e.lexical || b)

    gone : (o : ℕ) (n : Name) (a c : Bool) → a ≡ c → is_same_name s o x n ≡ false → (Hits o n || a) ≡ c
    gone o n a c e d = (λ i. d i && (n.lexical || b) || a) ∙ e

    hit-one : (n : Name) (a c : Bool) → a ≡ c → (Hits m n || a) ≡ cond (is_owned (renamed (only m) n)) (Hits 1 (renamed (only m) n) || c) c
    hit-one n a c e = at (is_export_space n.namespace) refl
      where
        exported : is_export_space n.namespace ≡ true → (v : Bool) → (Hits m n || a) ≡ cond v (Hits 1 n || c) c
        exported d true = gone m n a c e (never-first (namespace_number n.namespace == namespace_number s) (n.owner == m) (bytes_eq n.text x) (apart-spaces n.namespace s d fine)) ∙ sym (gone 1 n c c refl (never-first (namespace_number n.namespace == namespace_number s) (n.owner == 1) (bytes_eq n.text x) (apart-spaces n.namespace s d fine)))
        exported d false = gone m n a c e (never-first (namespace_number n.namespace == namespace_number s) (n.owner == m) (bytes_eq n.text x) (apart-spaces n.namespace s d fine))

        plain : (v : Bool) → (n.owner == m) ≡ v → (namespace_number n.namespace == namespace_number s && n.owner == m && bytes_eq n.text x && (n.lexical || b) || a) ≡ cond ((if v then 1 else 0) == 1) (namespace_number n.namespace == namespace_number s && (if v then 1 else 0) == 1 && bytes_eq n.text x && (n.lexical || b) || c) c
        plain true d = λ i. namespace_number n.namespace == namespace_number s && d i && bytes_eq n.text x && (n.lexical || b) || e i
        plain false d = gone m n a c e (never-second (namespace_number n.namespace == namespace_number s) (n.owner == m) (bytes_eq n.text x) d)

        at : (v : Bool) → is_export_space n.namespace ≡ v → (Hits m n || a) ≡ cond (is_owned (if v then n else record n { owner = only m n.owner })) (Hits 1 (if v then n else record n { owner = only m n.owner }) || c) c
        at true d = exported d (is_owned n)
        at false d = plain (n.owner == m) refl

    hits-pick : (ns : List Name) → list_any (λ e. Hits m e) ns ≡ list_any (λ e. Hits 1 e) (pick (only m) ns)
    hits-pick [] = refl
    hits-pick (n ∷ ns) = hit-one n (list_any (λ e. Hits m e) ns) (list_any (λ e. Hits 1 e) (pick (only m) ns)) (hits-pick ns) ∙ out (is_owned (renamed (only m) n))
      where
        out : (c : Bool) → cond c (Hits 1 (renamed (only m) n) || list_any (λ e. Hits 1 e) (pick (only m) ns)) (list_any (λ e. Hits 1 e) (pick (only m) ns)) ≡ list_any (λ e. Hits 1 e) (cond c (renamed (only m) n ∷ pick (only m) ns) (pick (only m) ns))
        out true = refl
        out false = refl

  -- a name of the node clashes with the same ones
  clash-same : (es : List Name) (n : Name) → is_export_space n.namespace ≡ false → n.owner ≡ m → clashes es n ≡ clashes (pick (only m) es) (record n { owner = 1 })
  clash-same es n d e = (λ i. list_any (λ z. is_same_name n.namespace (e i) n.text z && (z.lexical || n.lexical)) es) ∙ hits-pick n.namespace n.text n.lexical d es

  -- and what is exported with no other
  export-clash : (es : List Name) (n : Name) → is_export_space n.namespace ≡ true → clashes es n ≡ false → clashes (pick (only m) es) n ≡ false
  export-clash [] n d h = refl
  export-clash (e ∷ es) n d h = at (export-clash es n d (right-none _ (clashes es n) h)) (is_export_space e.namespace) refl
    where
      keeps : clashes (pick (only m) es) n ≡ false → (c : Bool) (z : Name) → (is_same_name n.namespace n.owner n.text z && (z.lexical || n.lexical)) ≡ false → clashes (cond c (z ∷ pick (only m) es) (pick (only m) es)) n ≡ false
      keeps rest true z k = or-none _ (clashes (pick (only m) es) n) k rest
      keeps rest false z k = rest

      at : clashes (pick (only m) es) n ≡ false → (v : Bool) → is_export_space e.namespace ≡ v → clashes (cond (is_owned (if v then e else record e { owner = only m e.owner })) ((if v then e else record e { owner = only m e.owner }) ∷ pick (only m) es) (pick (only m) es)) n ≡ false
      at rest true c = keeps rest (is_owned e) e (left-none _ (clashes es n) h)
      at rest false c = keeps rest (is_owned (record e { owner = only m e.owner })) (record e { owner = only m e.owner }) (λ i. never-first (namespace_number e.namespace == namespace_number n.namespace) (only m e.owner == n.owner) (bytes_eq e.text n.text) (spaces-apart e.namespace n.namespace c d) i && (e.lexical || n.lexical))

  pick-apart : (es ns : List Name) → list_any (λ n. clashes es n) ns ≡ false → list_any (λ n. clashes (pick (only m) es) n) (pick (only m) ns) ≡ false
  pick-apart es [] h = refl
  pick-apart es (n ∷ ns) h = at (pick-apart es ns (right-none (clashes es n) _ h)) (is_export_space n.namespace) refl
    where
      keeps : list_any (λ n. clashes (pick (only m) es) n) (pick (only m) ns) ≡ false → (c : Bool) (z : Name) → (c ≡ true → clashes (pick (only m) es) z ≡ false) → list_any (λ n. clashes (pick (only m) es) n) (cond c (z ∷ pick (only m) ns) (pick (only m) ns)) ≡ false
      keeps rest true z k = or-none (clashes (pick (only m) es) z) _ (k refl) rest
      keeps rest false z k = rest

      at : list_any (λ n. clashes (pick (only m) es) n) (pick (only m) ns) ≡ false → (v : Bool) → is_export_space n.namespace ≡ v → list_any (λ n. clashes (pick (only m) es) n) (cond (is_owned (if v then n else record n { owner = only m n.owner })) ((if v then n else record n { owner = only m n.owner }) ∷ pick (only m) ns) (pick (only m) ns)) ≡ false
      at rest true c = keeps rest (is_owned n) n (λ k. export-clash es n c (left-none (clashes es n) _ h))
      at rest false c = keeps rest (only m n.owner == 1) (record n { owner = only m n.owner }) (λ k. let o = only-back m n.owner k in (λ i. clashes (pick (only m) es) (record n { owner = only m (o i) })) ∙ (λ i. clashes (pick (only m) es) (record n { owner = only-it m i })) ∙ sym (clash-same es n c o) ∙ left-none (clashes es n) _ h)

  pick-used : (used : Text → Bool) (ns : List Name) → AllUsed used ns → AllUsed used (pick (only m) ns)
  pick-used used [] h = tt
  pick-used used (n ∷ ns) h = at (pick-used used ns h.1) (is_export_space n.namespace)
    where
      keeps : AllUsed used (pick (only m) ns) → (c : Bool) (z : Name) → is_used used z ≡ true → AllUsed used (cond c (z ∷ pick (only m) ns) (pick (only m) ns))
      keeps rest true z k = (k, rest)
      keeps rest false z k = rest

      at : AllUsed used (pick (only m) ns) → (v : Bool) → AllUsed used (cond (is_owned (if v then n else record n { owner = only m n.owner })) ((if v then n else record n { owner = only m n.owner }) ∷ pick (only m) ns) (pick (only m) ns))
      at rest true = keeps rest (is_owned n) n h.0
      at rest false = keeps rest (only m n.owner == 1) (record n { owner = only m n.owner }) h.0

  -- FROM VISITS: nothing clashes with what is declared earlier
  abbrev pub Apart : List Name → List Visit → Type 0
  Apart es [] = Unit {0}
  Apart es (v ∷ vs) = (list_any (λ n. clashes es n) (declared v.ancestors v.tree) ≡ false) × Apart (declared v.ancestors v.tree ++ es) vs

  abbrev pub EachUsed : (Text → Bool) → List Visit → Type 0
  EachUsed used [] = Unit {0}
  EachUsed used (v ∷ vs) = AllUsed used (declared v.ancestors v.tree) × EachUsed used vs

  distinct-push : (used : Text → Bool) (es g : List Name) (gs : List (List Name)) → list_any (λ n. clashes es n) g ≡ false → AllUsed used g → Distinct used (g ++ es) gs → Distinct used es (push g gs)
  distinct-push used es [] gs h u d = d
  distinct-push used es (n ∷ ns) gs h u d = (h, u, d)

  pub to-distinct : (used : Text → Bool) (es : List Name) (vs : List Visit) → Apart es vs → EachUsed used vs → Distinct used (pick (only m) es) (groups (only m) vs)
  to-distinct used es [] h u = tt
  to-distinct used es (v ∷ vs) h u =
      let d = declared v.ancestors v.tree in
      distinct-push used (pick (only m) es) (pick (only m) d) (groups (only m) vs) (pick-apart es d h.0) (pick-used used d u.0) (subst (λ (ns : List Name). Distinct used ns (groups (only m) vs)) (pick-both (only m) d es) (to-distinct used (d ++ es) vs h.1 u.1))

-- AND BACK

-- no name but an exported one clashes
abbrev pub hits_inside : List Name → Name → Bool
hits_inside es n = not (is_export_space n.namespace) && clashes es n

abbrev pub ApartInside : List Name → List Visit → Type 0
ApartInside es [] = Unit {0}
ApartInside es (v ∷ vs) = (list_any (λ n. hits_inside es n) (declared v.ancestors v.tree) ≡ false) × ApartInside (declared v.ancestors v.tree ++ es) vs

pick-back : (es ns : List Name) → ((m : ℕ) → list_any (λ n. clashes (pick (only m) es) n) (pick (only m) ns) ≡ false) → list_any (λ n. hits_inside es n) ns ≡ false
pick-back es [] h = refl
pick-back es (n ∷ ns) h = or-none (hits_inside es n) _ (here (is_export_space n.namespace) refl) (pick-back es ns (λ m. later m (is_owned (renamed (only m) n)) (h m)))
  where
    later : (m : ℕ) (c : Bool) → list_any (λ n. clashes (pick (only m) es) n) (cond c (renamed (only m) n ∷ pick (only m) ns) (pick (only m) ns)) ≡ false → list_any (λ n. clashes (pick (only m) es) n) (pick (only m) ns) ≡ false
    later m true k = right-none (clashes (pick (only m) es) (renamed (only m) n)) _ k
    later m false k = k

    owned-one : (c : Bool) (z : Name) (zs : List Name) (p : Name → Bool) → c ≡ true → list_any p (cond c (z ∷ zs) zs) ≡ false → p z ≡ false
    owned-one true z zs p e k = left-none (p z) (list_any p zs) k
    owned-one false z zs p e k = absurd (cc e)

    here : (v : Bool) → is_export_space n.namespace ≡ v → (not v && clashes es n) ≡ false
    here true d = refl
    here false d =
        let m = n.owner in
        let g : list_any (λ n. clashes (pick (only m) es) n) (cond (only m m == 1) (record n { owner = only m m } ∷ pick (only m) ns) (pick (only m) ns)) ≡ false = subst (λ (v : Bool). list_any (λ n. clashes (pick (only m) es) n) (cond (is_owned (if v then n else record n { owner = only m m })) ((if v then n else record n { owner = only m m }) ∷ pick (only m) ns) (pick (only m) ns)) ≡ false) d (h m) in
        clash-same m es n d refl ∙ sym (λ i. clashes (pick (only m) es) (record n { owner = only-it m i })) ∙ owned-one (only m m == 1) (record n { owner = only m m }) (pick (only m) ns) (λ n. clashes (pick (only m) es) n) (λ i. only-it m i == 1) g

from-push : (used : Text → Bool) (es g : List Name) (gs : List (List Name)) → Distinct used es (push g gs) → (list_any (λ n. clashes es n) g ≡ false) × Distinct used (g ++ es) gs
from-push used es [] gs d = (refl, d)
from-push used es (n ∷ ns) gs d = (d.0, d.2)

pub from-distinct : (used : Text → Bool) (es : List Name) (vs : List Visit) → ((m : ℕ) → Distinct used (pick (only m) es) (groups (only m) vs)) → ApartInside es vs
from-distinct used es [] h = tt
from-distinct used es (v ∷ vs) h =
    let d = declared v.ancestors v.tree in
    let parts : (m : ℕ) → (list_any (λ n. clashes (pick (only m) es) n) (pick (only m) d) ≡ false) × Distinct used (pick (only m) d ++ pick (only m) es) (groups (only m) vs) = λ m. from-push used (pick (only m) es) (pick (only m) d) (groups (only m) vs) (h m) in
    (pick-back es d (λ m. (parts m).0), from-distinct used (d ++ es) vs (λ m. subst (λ (ns : List Name). Distinct used ns (groups (only m) vs)) (sym (pick-both (only m) d es)) (parts m).1))
