-- Names and symbols that are known stay so as others are added: in trees, and in what is pending.
use Rattle.std.proofs.Common.{arith, ◌≤◌, ◌<◌, ◌≡◌, ℕ, refl, sym, subst, ◌∙◌, List, [], ◌∷◌}
use Rattle.std.specs.Prelude.{Bool, true, Option, Some, None, bytes_eq, codes, ltb, map}
use Rattle.std.specs.List.{list_all}
use Rattle.std.proofs.lemmas.Bool.{and_from, and_parts, lt-ltb, ltb-true}
use Rattle.std.proofs.lemmas.Slice.Eq.{bytes_eq-Decides}
use Rattle.es_tree.specs.Tree.{Field, Tree, Trees, empty, many, missing, one, statements, trees}
use Rattle.es_tree.specs.Words.{Text}
use Rattle.es_semantic.specs.declared.place.Binding.TheVariants.{Variable}
use Rattle.es_semantic.specs.declared.place.Role.{Role}
use Rattle.es_semantic.specs.declared.place.Role.TheVariants.{Binds}
use Rattle.es_resolution.specs.Called.{Called, CalledAll, CalledBy}
use Rattle.es_resolution.specs.Declarations.{Bound}
use Rattle.es_resolution.specs.Named.{IsBelow, Named, NamedAll, NamedBy}
use Rattle.es_steps.specs.Identifiers.{Passes, PassesAll, PassesBy, is_called}
use Rattle.es_steps.specs.Nodes.{declarator}
use Rattle.es_steps.specs.Open.{Pending, declaration, no_additions, nothing_pending, pending_statements, whole_list}
use Rattle.es_steps.specs.Steps.{Ledger, Whole}
use Rattle.es_steps.proofs.Kept.{Change, Each, Known}
use Rattle.es_steps.proofs.Kept.Change.{above, below, lexed, sealed}
use Rattle.es_steps.proofs.FormLists.{IsPlain, plain-none}
use Rattle.es_steps.proofs.Lists.{after-named, named-after}
use Rattle.es_steps.proofs.Passed.{Recalled}
use Rattle.es_steps.proofs.Passing.{PassesPending, passes-called, passes-called-all, passes-less, passes-less-all, passes-vars}
use Rattle.es_steps.proofs.Taken.{After, Allows, Goes, Outcome, pending_in, whole_in}
use Rattle.es_steps.proofs.Taken.Goes.{to_list, to_this}
use Rattle.es_changes.specs.Changes.{Level}
use Rattle.es_changes.specs.Fits.{ArePending, is_known, is_used}
use Rattle.es_changes.specs.Moments.{top}

-- WHOLES

up-to : (m a b : ℕ) → m < a → a ≤ b → m < b
up-to m a b e d = omega arith

at-least : (m : ℕ) → m ≤ m
at-least m = omega arith

from-to : (a b c : ℕ) → a ≤ b → b ≤ c → a ≤ c
from-to a b c e d = omega arith

pub recalled-none : (w : Whole) → Recalled w w
recalled-none w = record { freer = at-least w.free_symbol; same = λ m e. refl }

pub recalled-both : (w m e : Whole) → Recalled w m → Recalled m e → Recalled w e
recalled-both w m e a b = record { freer = from-to w.free_symbol m.free_symbol e.free_symbol a.freer b.freer; same = λ k d. b.same k (up-to k w.free_symbol m.free_symbol d a.freer) ∙ a.same k d }

-- the names of one are in use in the other
abbrev pub UsesMore : Whole → Whole → Type 0
UsesMore w w' = (x : Text) → w.in_use x ≡ true → w'.in_use x ≡ true

-- TESTS

pub known-later : (w w' : Whole) → Recalled w w' → (x : Text) (s : Option ℕ) → is_known w x s ≡ true → is_known w' x s ≡ true
known-later w w' r x None h = refl
known-later w w' r x (Some m) h =
    let parts = and_parts (ltb m w.free_symbol) (bytes_eq x (w.called m)) h in
    let low : m < w.free_symbol = ltb-true m w.free_symbol parts.0 in
    and_from (ltb m w'.free_symbol) (bytes_eq x (w'.called m)) (lt-ltb m w'.free_symbol (up-to m w.free_symbol w'.free_symbol low r.freer)) ((λ i. bytes_eq x (r.same m low i)) ∙ parts.1)

used-later : (w w' : Whole) → Recalled w w' → UsesMore w w' → (x : Text) (s : Option ℕ) → is_used w x s ≡ true → is_used w' x s ≡ true
used-later w w' r more x s h =
    let parts = and_parts (w.in_use x) (is_known w x s) h in
    and_from (w'.in_use x) (is_known w' x s) (more x parts.0) (known-later w w' r x s parts.1)

pub known-called : (w : Whole) (x : Text) (s : Option ℕ) → is_known w x s ≡ true → is_called w.called x s ≡ true
known-called w x None h = refl
known-called w x (Some m) h = (and_parts (ltb m w.free_symbol) (bytes_eq x (w.called m)) h).1

-- new symbols are known in the end
pub new-known : (w w' e : Whole) → Recalled w' e → Allows (is_known e) w w'
new-known w w' e r = record { words = λ x. refl; new = λ m low high. and_from (ltb m e.free_symbol) (bytes_eq (w'.called m) (e.called m)) (lt-ltb m e.free_symbol (up-to m w'.free_symbol e.free_symbol high r.freer)) ((bytes_eq-Decides (w'.called m) (e.called m)).1 (sym (r.same m high))) }

-- TREES: symbols that are known in the end have the names that they have

module _ (w e : Whole) (r : Recalled w e) where
  pub called-in : (role : Role) (t : Tree) → Named w.in_use w.free_symbol role t → Passes (is_known e) t → Called w.called t
  called-in role t named known = passes-called w.called e.called w.free_symbol (λ m d. r.same m d) w.in_use role t named (passes-less (is_known e) (is_called e.called) (known-called e) t known)

  pub called-all : (role : Role) (ts : Trees) → NamedAll w.in_use w.free_symbol role ts → PassesAll (is_known e) ts → CalledAll w.called ts
  called-all role ts named known = passes-called-all w.called e.called w.free_symbol (λ m d. r.same m d) w.in_use role ts named (passes-less-all (is_known e) (is_called e.called) (known-called e) ts known)

  pub called-by : (role : Role) (f : Field) → NamedBy w.in_use w.free_symbol role f → PassesBy (is_known e) f → CalledBy w.called f
  called-by role missing named known = tt
  called-by role (one t) named known = called-in role t named known
  called-by role (many ts) named known = called-all role ts named known
  called-by role (statements ts) named known = called-all role ts named known

-- WHAT IS PENDING

pub pending-less : (q p : Text → Option ℕ → Bool) → ((x : Text) (s : Option ℕ) → q x s ≡ true → p x s ≡ true) → (a : Pending) → PassesPending q a → PassesPending p a
pending-less q p less a h = record { vars = passes-less-all q p less (trees a.vars) h.vars; lets = passes-less-all q p less (trees a.lets) h.lets }

-- whether a name is in use, whatever its symbol
abbrev pub is_in_use : Whole → Text → Option ℕ → Bool
is_in_use w x s = w.in_use x

all-sound : (q : Text → Option ℕ → Bool) (P : Bound → Type 0) (bs : List Bound) → ((b : Bound) → P b → q b.name b.symbol ≡ true) → Each P bs → list_all (λ b. q b.name b.symbol) bs ≡ true
all-sound q P [] f h = refl
all-sound q P (b ∷ bs) f h = and_from (q b.name b.symbol) (list_all (λ b. q b.name b.symbol) bs) (f b h.0) (all-sound q P bs f h.1)

pending-after : (q : Text → Option ℕ → Bool) (c : Change) (g : Goes) (given : List Bound) (s s' : Ledger) → After c g given s s' → list_all (λ b. q b.name b.symbol) given ≡ true → PassesPending q (pending_in s) → PassesPending q (pending_in s')
pending-after q above to_list given s s' e d h = subst (λ (p : Pending). PassesPending q p) (sym e.pending) (passes-vars q given (pending_in s) d h)
pending-after q above to_this given s s' e d h = subst (λ (p : Pending). PassesPending q p) (sym e.pending) h
pending-after q below g given s s' e d h = subst (λ (p : Pending). PassesPending q p) (sym e.pending) h
pending-after q lexed g given s s' e d h = subst (λ (p : Pending). PassesPending q p) (sym e.pending) h
pending-after q sealed g given s s' e d h = subst (λ (p : Pending). PassesPending q p) (sym e.pending) h

-- names that a step adds are in use
pub used-after : {K : Known → Change → Type 0} {s s' : Ledger} → Outcome K s s' → PassesPending (is_in_use (whole_in s)) (pending_in s) → PassesPending (is_in_use (whole_in s')) (pending_in s')
used-after {s = s} {s' = s'} o h =
    pending-after (is_in_use (whole_in s')) o.change o.goes o.given s s' o.beside
    (all-sound (is_in_use (whole_in s')) _ o.given (λ b k. k.2) o.sound)
    (pending-less (is_in_use (whole_in s)) (is_in_use (whole_in s')) (λ x m d. o.more x d) (pending_in s) h)

-- TEMPORARIES

names-all : (q : Text → Option ℕ → Bool) (bs : List Bound) → PassesAll q (trees (map declarator bs)) → list_all (λ b. q b.name b.symbol) bs ≡ true
names-all q [] h = refl
names-all q (b ∷ bs) h = and_from (q b.name b.symbol) (list_all (λ b. q b.name b.symbol) bs) h.0.1.0.0 (names-all q bs h.1)

pub plain-all : (q : Text → Option ℕ → Bool) (p : Pending) (h : IsPlain p) → PassesPending q p → list_all (λ b. q b.name b.symbol) h.names ≡ true
plain-all q p h k = names-all q h.names (subst (λ (p : Pending). PassesPending q p) h.are k).vars

pub all-plain : (q : Text → Option ℕ → Bool) (p : Pending) (h : IsPlain p) → list_all (λ b. q b.name b.symbol) h.names ≡ true → PassesPending q p
all-plain q p h k = subst (λ (p : Pending). PassesPending q p) (sym h.are) (passes-vars q h.names nothing_pending k (record { vars = tt; lets = tt }))

all-both : (w : Whole) (bs : List Bound) → list_all (λ b. is_in_use w b.name b.symbol) bs ≡ true → list_all (λ b. is_known w b.name b.symbol) bs ≡ true → list_all (λ b. is_used w b.name b.symbol) bs ≡ true
all-both w [] h k = refl
all-both w (b ∷ bs) h k =
    let a = and_parts (w.in_use b.name) (list_all (λ b. is_in_use w b.name b.symbol) bs) h in
    let c = and_parts (is_known w b.name b.symbol) (list_all (λ b. is_known w b.name b.symbol) bs) k in
    and_from (is_used w b.name b.symbol) (list_all (λ b. is_used w b.name b.symbol) bs) (and_from (w.in_use b.name) (is_known w b.name b.symbol) a.0 c.0) (all-both w bs a.1 c.1)

-- in use and known
pub used-known : (w : Whole) (p : Pending) → IsPlain p → PassesPending (is_in_use w) p → PassesPending (is_known w) p → PassesPending (is_used w) p
used-known w p h a b = all-plain (is_used w) p h (all-both w h.names (plain-all (is_in_use w) p h a) (plain-all (is_known w) p h b))

pub used-first : (w : Whole) (p : Pending) → PassesPending (is_used w) p → PassesPending (is_in_use w) p
used-first w p h = pending-less (is_used w) (is_in_use w) (λ x s d. (and_parts (w.in_use x) (is_known w x s) d).0) p h

pub used-second : (w : Whole) (p : Pending) → PassesPending (is_used w) p → PassesPending (is_known w) p
used-second w p h = pending-less (is_used w) (is_known w) (λ x s d. (and_parts (w.in_use x) (is_known w x s) d).1) p h

known-below : (w : Whole) (x : Text) (s : Option ℕ) → is_known w x s ≡ true → IsBelow w.free_symbol s
known-below w x None h = tt
known-below w x (Some m) h = ltb-true m w.free_symbol (and_parts (ltb m w.free_symbol) (bytes_eq x (w.called m)) h).0

-- as statements of a list

abbrev var_names : List Bound → Trees
var_names bs = declaration (codes "var") (map declarator bs) empty

declarators-named : (w : Whole) (bs : List Bound) → list_all (λ b. is_used w b.name b.symbol) bs ≡ true → NamedAll w.in_use w.free_symbol (Binds Variable) (trees (map declarator bs))
declarators-named w [] h = tt
declarators-named w (b ∷ bs) h =
    let parts = and_parts (is_used w b.name b.symbol) (list_all (λ b. is_used w b.name b.symbol) bs) h in
    let own = and_parts (w.in_use b.name) (is_known w b.name b.symbol) parts.0 in
    (((tt, tt), (((own.0, known-below w b.name b.symbol own.1), tt), (tt, tt))), declarators-named w bs parts.1)

named-declarators : (w : Whole) (bs : List Bound) → NamedAll w.in_use w.free_symbol (Binds Variable) (trees (map declarator bs)) → list_all (λ b. is_in_use w b.name b.symbol) bs ≡ true
named-declarators w [] h = refl
named-declarators w (b ∷ bs) h = and_from (w.in_use b.name) (list_all (λ b. is_in_use w b.name b.symbol) bs) h.0.1.0.0.0 (named-declarators w bs h.1)

names-named : (w : Whole) (r : Role) (bs : List Bound) → list_all (λ b. is_used w b.name b.symbol) bs ≡ true → NamedAll w.in_use w.free_symbol r (var_names bs)
names-named w r [] h = tt
names-named w r (b ∷ bs) h = (((tt, tt), (declarators-named w (b ∷ bs) h, tt)), tt)

named-names : (w : Whole) (r : Role) (bs : List Bound) → NamedAll w.in_use w.free_symbol r (var_names bs) → list_all (λ b. is_in_use w b.name b.symbol) bs ≡ true
named-names w r [] h = refl
named-names w r (b ∷ bs) h = named-declarators w (b ∷ bs) h.0.1.0

-- a list with what is pending for it
pub list-named : (w : Whole) (r : Role) (p : Pending) (ts : Trees) → IsPlain p → PassesPending (is_used w) p → NamedAll w.in_use w.free_symbol r ts → NamedAll w.in_use w.free_symbol r (whole_list p None no_additions ts)
list-named w r p ts h k named =
    named-after w.in_use w.free_symbol r (pending_statements p None no_additions) ts
    (subst (λ (p : Pending). NamedAll w.in_use w.free_symbol r (pending_statements p None no_additions)) (sym h.are) (names-named w r h.names (plain-all (is_used w) p h k))) named

pub named-list : (w : Whole) (r : Role) (p : Pending) (ts : Trees) → IsPlain p → NamedAll w.in_use w.free_symbol r (whole_list p None no_additions ts) → PassesPending (is_in_use w) p × NamedAll w.in_use w.free_symbol r ts
named-list w r p ts h named =
    let parts = after-named w.in_use w.free_symbol r (pending_statements p None no_additions) ts named in
    (all-plain (is_in_use w) p h (named-names w r h.names (subst (λ (p : Pending). NamedAll w.in_use w.free_symbol r (pending_statements p None no_additions)) h.are parts.0)), parts.1)

-- ALL LISTS AROUND

pub top-plain : (w : Whole) (ps : List Pending) → ArePending w ps → IsPlain (top ps) × PassesPending (is_used w) (top ps)
top-plain w [] h = (plain-none, record { vars = tt; lets = tt })
top-plain w (p ∷ ps) h = h.0

lists-later : (w w' : Whole) → Recalled w w' → UsesMore w w' → (ps : List Pending) → ArePending w ps → ArePending w' ps
lists-later w w' r more [] h = tt
lists-later w w' r more (p ∷ ps) h = ((h.0.0, pending-less (is_used w) (is_used w') (used-later w w' r more) p h.0.1), lists-later w w' r more ps h.1)

pub lists-after : (w w' : Whole) → Recalled w w' → UsesMore w w' → (ps qs : List Pending) → Level ps qs → ArePending w ps → IsPlain (top qs) → PassesPending (is_used w') (top qs) → ArePending w' qs
lists-after w w' r more ps [] e h a b = tt
lists-after w w' r more [] (q ∷ qs) e h a b = absurd (cc e.deep)
lists-after w w' r more (p ∷ ps) (q ∷ qs) e h a b = ((a, b), subst (λ (xs : List Pending). ArePending w' xs) (sym e.outer) (lists-later w w' r more ps h.1))
