-- No rule of places is listed as broken exactly where each node, with its ancestors, keeps each of them.
use Rattle.std.proofs.Common.{◌≡◌, ◌+◌, ℕ, suc, refl, List, [], ◌∷◌, ◌++◌, map, filter, cond}
use Rattle.std.specs.Prelude.{Bool, true, false}
use Rattle.es_tree.specs.Ancestors.{Ancestor, ancestor, Visit, visits, visits_in_field, visits_in_fields, visits_in_trees}
use Rattle.es_tree.specs.DeclaredNames.{Name, declared}
use Rattle.es_tree.specs.StaticRules.{all_names, all_rules, breaks_after, breaks_at, is_broken}
use Rattle.es_tree.specs.Tree.{Tree, node, Label, Fields, done, ◌then◌, Field, missing, one, many, statements, Trees, empty, ◌before◌, field_size, label_of, tree_size}
use Rattle.es_tree.specs.declared.ast_type.AstType.{AstType}
use Rattle.es_tree.specs.declared.error.Rule.{Rule}
use Rattle.es_valid_steps.specs.Laws.{LawAmong, LawPlaces}
use Rattle.es_valid_steps.specs.PlaceRules.{Keeps, KeepsAll, KeepsBy, KeepsHere, KeepsIn, place_rules}
use Rattle.es_valid_steps.proofs.Moves.{here-moved}
use Rattle.es_valid_steps.proofs.Offers.{Alike, Near, Offers, near-self, near-within, offers-self, offers-within}

-- LISTS OF BROKEN RULES

none-first : {X : Type 0} (xs ys : List X) → xs ++ ys ≡ [] → xs ≡ []
none-first [] ys e = refl
none-first (x ∷ xs) ys e = absurd (cc e)

none-second : {X : Type 0} (xs ys : List X) → xs ++ ys ≡ [] → ys ≡ []
none-second [] ys e = e
none-second (x ∷ xs) ys e = absurd (cc e)

none-mapped : {X Y : Type 0} (f : X → Y) (xs : List X) → map f xs ≡ [] → xs ≡ []
none-mapped f [] e = refl
none-mapped f (x ∷ xs) e = absurd (cc e)

fails-first : {X : Type 0} (b : Bool) (x : X) (xs : List X) → cond b (x ∷ xs) xs ≡ [] → b ≡ false
fails-first true x xs e = absurd (cc e)
fails-first false x xs e = refl

fails-later : {X : Type 0} (b : Bool) (x : X) (xs : List X) → cond b (x ∷ xs) xs ≡ [] → xs ≡ []
fails-later true x xs e = absurd (cc e)
fails-later false x xs e = e

-- none of these rules is broken
abbrev NoneOf : (Rule → Bool) → List Rule → Type 0
NoneOf P [] = Unit {0}
NoneOf P (r ∷ rs) = (P r ≡ false) × NoneOf P rs

to-none : (P : Rule → Bool) (rs : List Rule) → filter P rs ≡ [] → NoneOf P rs
to-none P [] e = tt
to-none P (r ∷ rs) e = (fails-first (P r) r (filter P rs) e, to-none P rs (fails-later (P r) r (filter P rs) e))

from-none : (P : Rule → Bool) (rs : List Rule) → NoneOf P rs → filter P rs ≡ []
from-none P [] h = refl
from-none P (r ∷ rs) h = let e = h.0 in rw e (from-none P rs h.1)

-- of the visits one after the other
abbrev NoneBroken : List Rule → List Name → List Name → List Visit → Type 0
NoneBroken rules all earlier [] = Unit {0}
NoneBroken rules all earlier (v ∷ vs) = NoneOf (is_broken all earlier v.ancestors v.tree) rules × NoneBroken rules all (declared v.ancestors v.tree ++ earlier) vs

to-none-broken : (rules : List Rule) (all earlier : List Name) (vs : List Visit) → breaks_after rules all earlier vs ≡ [] → NoneBroken rules all earlier vs
to-none-broken rules all earlier [] e = tt
to-none-broken rules all earlier (v ∷ vs) e = (
  to-none (is_broken all earlier v.ancestors v.tree) rules (none-mapped (λ r. (r, (label_of v.tree).id)) (filter (is_broken all earlier v.ancestors v.tree) rules) (none-first (breaks_at rules all earlier v) (breaks_after rules all (declared v.ancestors v.tree ++ earlier) vs) e)),
  to-none-broken rules all (declared v.ancestors v.tree ++ earlier) vs (none-second (breaks_at rules all earlier v) (breaks_after rules all (declared v.ancestors v.tree ++ earlier) vs) e),
)

from-none-broken : (rules : List Rule) (all earlier : List Name) (vs : List Visit) → NoneBroken rules all earlier vs → breaks_after rules all earlier vs ≡ []
from-none-broken rules all earlier [] h = refl
from-none-broken rules all earlier (v ∷ vs) h = let e = from-none (is_broken all earlier v.ancestors v.tree) rules h.0 in rw e (from-none-broken rules all (declared v.ancestors v.tree ++ earlier) vs h.1)

-- THE RULES OF PLACES: at each visit

abbrev EachHere : List Visit → Type 0
EachHere [] = Unit {0}
EachHere (v ∷ vs) = KeepsHere v.ancestors v.tree × EachHere vs

both-here : (vs us : List Visit) → EachHere vs → EachHere us → EachHere (vs ++ us)
both-here [] us h k = k
both-here (v ∷ vs) us h k = (h.0, both-here vs us h.1 k)

first-here : (vs us : List Visit) → EachHere (vs ++ us) → EachHere vs
first-here [] us h = tt
first-here (v ∷ vs) us h = (h.0, first-here vs us h.1)

second-here : (vs us : List Visit) → EachHere (vs ++ us) → EachHere us
second-here [] us h = h
second-here (v ∷ vs) us h = second-here vs us h.1

kept-here : (all earlier : List Name) (up : List Ancestor) (t : Tree) → NoneOf (is_broken all earlier up t) place_rules → KeepsHere up t
kept-here all earlier up t h = record {
  jump = h.0;
  label = h.1.0;
  returned = h.1.1.0;
  super_word = h.1.1.1.0;
  target = h.1.1.1.1.0;
  chain = h.1.1.1.1.1.0;
  mark = h.1.1.1.1.1.1.0;
  deleted = h.1.1.1.1.1.1.1.0;
  value = h.1.1.1.1.1.1.1.1.0;
  using_word = h.1.1.1.1.1.1.1.1.1.0;
  head = h.1.1.1.1.1.1.1.1.1.1.0;
  item = h.1.1.1.1.1.1.1.1.1.1.1.0;
  accessor = h.1.1.1.1.1.1.1.1.1.1.1.1.0;
  rest = h.1.1.1.1.1.1.1.1.1.1.1.1.1.0;
  declaration = h.1.1.1.1.1.1.1.1.1.1.1.1.1.1.0;
  meta = h.1.1.1.1.1.1.1.1.1.1.1.1.1.1.1.0;
}

here-kept : (all earlier : List Name) (up : List Ancestor) (t : Tree) → KeepsHere up t → NoneOf (is_broken all earlier up t) place_rules
here-kept all earlier up t h = (h.jump, (h.label, (h.returned, (h.super_word, (h.target, (h.chain, (h.mark, (h.deleted, (h.value, (h.using_word, (h.head, (h.item, (h.accessor, (h.rest, (h.declaration, (h.meta, tt))))))))))))))))

each-here : (all earlier : List Name) (vs : List Visit) → NoneBroken place_rules all earlier vs → EachHere vs
each-here all earlier [] h = tt
each-here all earlier (v ∷ vs) h = (kept-here all earlier v.ancestors v.tree h.0, each-here all (declared v.ancestors v.tree ++ earlier) vs h.1)

here-each : (all earlier : List Name) (vs : List Visit) → EachHere vs → NoneBroken place_rules all earlier vs
here-each all earlier [] h = tt
here-each all earlier (v ∷ vs) h = (here-kept all earlier v.ancestors v.tree h.0, here-each all (declared v.ancestors v.tree ++ earlier) vs h.1)

-- BY ANCESTORS: with their numbers and without

-- one has all that the other offers, and says the same as a parent
record AsMuch (up vp : List Ancestor) : Type 0 where
  offers : Offers true up vp
  near : Near up vp

as-much : (up vp : List Ancestor) (k : AstType) (l : Label) (all : Fields) (i n m : ℕ) → AsMuch up vp → AsMuch (ancestor k l all i n ∷ up) (ancestor k l all i m ∷ vp)
as-much up vp k l all i n m h =
    let same : Alike (ancestor k l all i n) (ancestor k l all i m) = record { kind = refl; label = refl; index = refl; labels = refl; derived = refl } in
    record { offers = offers-within true up vp _ _ same h.offers (λ e. absurd (cc e)); near = near-within up vp _ _ same h.near }

mutual
  to-visits : (up vp : List Ancestor) (n : ℕ) (t : Tree) → AsMuch up vp → Keeps up t → EachHere (visits vp n t)
  to-visits up vp n (node k l fs) m h = (here-moved true up vp (node k l fs) m.offers m.near (λ e. absurd (cc e)) h.0, to-fields up vp k l fs n 0 (suc n) fs m h.1)

  to-fields : (up vp : List Ancestor) (k : AstType) (l : Label) (all : Fields) (n i m : ℕ) (fs : Fields) → AsMuch up vp → KeepsIn up k l all i fs → EachHere (visits_in_fields vp k l all n i m fs)
  to-fields up vp k l all n i m done a h = tt
  to-fields up vp k l all n i m (f then fs) a h = both-here (visits_in_field (ancestor k l all i n ∷ vp) m f) (visits_in_fields vp k l all n (suc i) (m + field_size f) fs) (to-field _ _ m f (as-much up vp k l all i 0 n a) h.0) (to-fields up vp k l all n (suc i) (m + field_size f) fs a h.1)

  to-field : (up vp : List Ancestor) (m : ℕ) (f : Field) → AsMuch up vp → KeepsBy up f → EachHere (visits_in_field vp m f)
  to-field up vp m missing a h = tt
  to-field up vp m (one t) a h = to-visits up vp m t a h
  to-field up vp m (many ts) a h = to-trees up vp m ts a h
  to-field up vp m (statements ts) a h = to-trees up vp m ts a h

  to-trees : (up vp : List Ancestor) (m : ℕ) (ts : Trees) → AsMuch up vp → KeepsAll up ts → EachHere (visits_in_trees vp m ts)
  to-trees up vp m empty a h = tt
  to-trees up vp m (t before ts) a h = both-here (visits vp m t) (visits_in_trees vp (m + tree_size t) ts) (to-visits up vp m t a h.0) (to-trees up vp (m + tree_size t) ts a h.1)

mutual
  from-visits : (up vp : List Ancestor) (n : ℕ) (t : Tree) → AsMuch up vp → EachHere (visits up n t) → Keeps vp t
  from-visits up vp n (node k l fs) m h = (here-moved true up vp (node k l fs) m.offers m.near (λ e. absurd (cc e)) h.0, from-fields up vp k l fs n 0 (suc n) fs m h.1)

  from-fields : (up vp : List Ancestor) (k : AstType) (l : Label) (all : Fields) (n i m : ℕ) (fs : Fields) → AsMuch up vp → EachHere (visits_in_fields up k l all n i m fs) → KeepsIn vp k l all i fs
  from-fields up vp k l all n i m done a h = tt
  from-fields up vp k l all n i m (f then fs) a h =
      let here = visits_in_field (ancestor k l all i n ∷ up) m f in
      let later = visits_in_fields up k l all n (suc i) (m + field_size f) fs in
      (from-field (ancestor k l all i n ∷ up) (ancestor k l all i 0 ∷ vp) m f (as-much up vp k l all i n 0 a) (first-here here later h), from-fields up vp k l all n (suc i) (m + field_size f) fs a (second-here here later h))

  from-field : (up vp : List Ancestor) (m : ℕ) (f : Field) → AsMuch up vp → EachHere (visits_in_field up m f) → KeepsBy vp f
  from-field up vp m missing a h = tt
  from-field up vp m (one t) a h = from-visits up vp m t a h
  from-field up vp m (many ts) a h = from-trees up vp m ts a h
  from-field up vp m (statements ts) a h = from-trees up vp m ts a h

  from-trees : (up vp : List Ancestor) (m : ℕ) (ts : Trees) → AsMuch up vp → EachHere (visits_in_trees up m ts) → KeepsAll vp ts
  from-trees up vp m empty a h = tt
  from-trees up vp m (t before ts) a h = (from-visits up vp m t a (first-here (visits up m t) (visits_in_trees up (m + tree_size t) ts) h), from-trees up vp (m + tree_size t) ts a (second-here (visits up m t) (visits_in_trees up (m + tree_size t) ts) h))

-- THE LAWS

no-ancestors : AsMuch [] []
no-ancestors = record { offers = offers-self []; near = near-self [] }

pub law_places_proof : LawPlaces
law_places_proof t = record {
  to_places = λ e. from-visits [] [] 0 t no-ancestors (each-here (all_names t) [] (visits [] 0 t) (to-none-broken place_rules (all_names t) [] (visits [] 0 t) e));
  from_places = λ h. from-none-broken place_rules (all_names t) [] (visits [] 0 t) (here-each (all_names t) [] (visits [] 0 t) (to-visits [] [] 0 t no-ancestors h));
}

-- the rules of places are among all rules
among-all : (P : Rule → Bool) → NoneOf P all_rules → NoneOf P place_rules
among-all P h = (h.1.0, (h.1.1.0, (h.1.1.1.0, (h.1.1.1.1.0, (h.1.1.1.1.1.0, (h.1.1.1.1.1.1.0, (h.1.1.1.1.1.1.1.0, (h.1.1.1.1.1.1.1.1.0, (h.1.1.1.1.1.1.1.1.1.0, (h.1.1.1.1.1.1.1.1.1.1.0, (h.1.1.1.1.1.1.1.1.1.1.1.0, (h.1.1.1.1.1.1.1.1.1.1.1.1.0, (h.1.1.1.1.1.1.1.1.1.1.1.1.1.1.1.0, (h.1.1.1.1.1.1.1.1.1.1.1.1.1.1.1.1.0, (h.1.1.1.1.1.1.1.1.1.1.1.1.1.1.1.1.1.0, (h.1.1.1.1.1.1.1.1.1.1.1.1.1.1.1.1.1.1.0, tt))))))))))))))))

all-among : (all earlier : List Name) (vs : List Visit) → NoneBroken all_rules all earlier vs → NoneBroken place_rules all earlier vs
all-among all earlier [] h = tt
all-among all earlier (v ∷ vs) h = (among-all (is_broken all earlier v.ancestors v.tree) h.0, all-among all (declared v.ancestors v.tree ++ earlier) vs h.1)

pub law_among_proof : LawAmong
law_among_proof t e = from-none-broken place_rules (all_names t) [] (visits [] 0 t) (all-among (all_names t) [] (visits [] 0 t) (to-none-broken all_rules (all_names t) [] (visits [] 0 t) e))
