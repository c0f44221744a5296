-- Lists of declared names into which one list comes that has no name of theirs: nothing clashes that didn't clash.
use Rattle.std.proofs.Common.{◌≡◌, ◌==◌, ℕ, refl, sym, ◌∙◌, List, [], ◌∷◌, ◌++◌}
use Rattle.std.specs.Prelude.{Bool, true, false, ◌&&◌, ◌||◌}
use Rattle.std.specs.List.{list_any}
use Rattle.es_tree.specs.DeclaredNames.{Name, clashes, is_same_name, namespace_number}
use Rattle.es_tree.specs.Words.{Text}
use Rattle.es_runs.proofs.Temporary.{bytes_eq-flip}
use Rattle.es_scope.proofs.TableReferences.{eqb_turned}
use Rattle.es_valid_names.proofs.Claims.{AllUsed, Distinct}
use Rattle.es_valid_names.proofs.Grown.{left-none, or-none, right-none}

-- the second name isn't the first
abbrev pub Away : Name → Name → Type 0
Away n m = is_same_name n.namespace n.owner n.text m ≡ false

-- it is none of these
abbrev pub AllAway : List Name → Name → Type 0
AllAway [] m = Unit {0}
AllAway (n ∷ g) m = Away n m × AllAway g m

-- and none of those is
abbrev pub AwayNames : List Name → List Name → Type 0
AwayNames g [] = Unit {0}
AwayNames g (m ∷ ms) = AllAway g m × AwayNames g ms

abbrev pub AwayLists : List Name → List (List Name) → Type 0
AwayLists g [] = Unit {0}
AwayLists g (h ∷ hs) = AwayNames g h × AwayLists g hs

number-flip : (a b : ℕ) → (a == b) ≡ (b == a)
number-flip a b = at (a == b) (b == a) refl refl
  where
    at : (c d : Bool) → (a == b) ≡ c → (b == a) ≡ d → c ≡ d
    at true true e f = refl
    at false false e f = refl
    at true false e f = absurd (cc (sym e ∙ eqb_turned b a f))
    at false true e f = absurd (cc (sym f ∙ eqb_turned a b e))

pub same-flip : (n m : Name) → is_same_name m.namespace m.owner m.text n ≡ is_same_name n.namespace n.owner n.text m
same-flip n m = λ i. number-flip (namespace_number n.namespace) (namespace_number m.namespace) i && number-flip n.owner m.owner i && bytes_eq-flip n.text m.text i

pub away-names : (g ns ms : List Name) → AwayNames g ns → AwayNames g ms → AwayNames g (ns ++ ms)
away-names g [] ms h k = k
away-names g (n ∷ ns) ms h k = (h.0, away-names g ns ms h.1 k)

pub away-lists : (g : List Name) (gs hs : List (List Name)) → AwayLists g gs → AwayLists g hs → AwayLists g (gs ++ hs)
away-lists g [] hs h k = k
away-lists g (f ∷ gs) hs h k = (h.0, away-lists g gs hs h.1 k)

-- CLASHES

with-none : (a b : Bool) → a ≡ false → (a && b) ≡ false
with-none a b e = λ i. e i && b

first-away : (n : Name) (g ns : List Name) → AwayNames (n ∷ g) ns → clashes ns n ≡ false
first-away n g [] h = refl
first-away n g (m ∷ ns) h = or-none _ (clashes ns n) (with-none (is_same_name n.namespace n.owner n.text m) (m.lexical || n.lexical) h.0.0) (first-away n g ns h.1)

rest-away : (n : Name) (g ns : List Name) → AwayNames (n ∷ g) ns → AwayNames g ns
rest-away n g [] h = tt
rest-away n g (m ∷ ns) h = (h.0.1, rest-away n g ns h.1)

none-clash : (g ns : List Name) → AwayNames g ns → list_any (λ n. clashes ns n) g ≡ false
none-clash [] ns h = refl
none-clash (n ∷ g) ns h = or-none (clashes ns n) (list_any (λ m. clashes ns m) g) (first-away n g ns h) (none-clash g ns (rest-away n g ns h))

-- names among which the list came
data Among (g : List Name) : List Name → List Name → Type 0 where
  first : (ns : List Name) → Among g ns (g ++ ns)
  after : {ns ms : List Name} (m : Name) → Among g ns ms → Among g (m ∷ ns) (m ∷ ms)

among-list : {g : List Name} (h : List Name) {ns ms : List Name} → Among g ns ms → Among g (h ++ ns) (h ++ ms)
among-list [] a = a
among-list (m ∷ h) a = after m (among-list h a)

list-away : (m : Name) (g ns : List Name) → AllAway g m → clashes ns m ≡ false → clashes (g ++ ns) m ≡ false
list-away m [] ns h e = e
list-away m (n ∷ g) ns h e = or-none _ (clashes (g ++ ns) m) (with-none (is_same_name m.namespace m.owner m.text n) (n.lexical || m.lexical) (same-flip n m ∙ h.0)) (list-away m g ns h.1 e)

old-away : (m : Name) (g : List Name) {ns ms : List Name} → Among g ns ms → AllAway g m → clashes ns m ≡ false → clashes ms m ≡ false
old-away m g (first ns) h e = list-away m g ns h e
old-away m g (after {ns = ns} {ms = ms} k a) h e = or-none _ (clashes ms m) (left-none _ (clashes ns m) e) (old-away m g a h (right-none _ (clashes ns m) e))

old-list : (h g ns ms : List Name) → Among g ns ms → AwayNames g h → list_any (λ m. clashes ns m) h ≡ false → list_any (λ m. clashes ms m) h ≡ false
old-list [] g ns ms a w e = refl
old-list (m ∷ h) g ns ms a w e = or-none (clashes ms m) (list_any (λ n. clashes ms n) h) (old-away m g a w.0 (left-none (clashes ns m) (list_any (λ n. clashes ns n) h) e)) (old-list h g ns ms a w.1 (right-none (clashes ns m) (list_any (λ n. clashes ns n) h) e))

module _ (used : Text → Bool) where
  lists-after : (g ns ms : List Name) → Among g ns ms → (hs : List (List Name)) → AwayLists g hs → Distinct used ns hs → Distinct used ms hs
  lists-after g ns ms a [] w d = tt
  lists-after g ns ms a (h ∷ hs) w d = (old-list h g ns ms a w.0 d.0, d.1, lists-after g (h ++ ns) (h ++ ms) (among-list h a) hs w.1 d.2)

  -- the list comes after the first of these lists
  insert-after : (g ns : List Name) (gs hs : List (List Name)) → AllUsed used g → AwayNames g ns → AwayLists g gs → AwayLists g hs → Distinct used ns (gs ++ hs) → Distinct used ns (gs ++ (g ∷ hs))
  insert-after g ns [] hs u n w v d = (none-clash g ns n, u, lists-after g ns (g ++ ns) (first ns) hs v d)
  insert-after g ns (f ∷ gs) hs u n w v d = (d.0, d.1, insert-after g (f ++ ns) gs hs u (away-names g f ns w.0 n) w.1 v d.2)

  pub inserted : (g : List Name) (gs hs : List (List Name)) → AllUsed used g → AwayLists g gs → AwayLists g hs → Distinct used [] (gs ++ hs) → Distinct used [] (gs ++ (g ∷ hs))
  inserted g gs hs u w v d = insert-after g [] gs hs u tt w v d
