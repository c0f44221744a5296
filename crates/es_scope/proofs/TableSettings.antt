-- What is said of a table after one of its scopes or symbols is another, and after scopes are moved below a new one.
use Rattle.std.proofs.Common.{◌≡◌, ℕ, zero, suc, ◌+◌, ◌<◌, ◌==◌, ◌||◌, Bool, true, false, if◌then◌else◌, Some, None, List, [], ◌∷◌, length, get_or, set, take, option_map, option_and_then, slice_get, unwrap_or, string_bytes, refl, sym, ap, ◌∙◌, arith}
use Rattle.std.proofs.lemmas.Bool.{eq-eqb, eqb-false, eqb-true}
use Rattle.std.proofs.lemmas.List.Folds.{list_any_at, list_any_more}
use Rattle.es_tree.specs.Heads.{scope}
use Rattle.es_tree.specs.Words.{Text}
use Rattle.es_tree.specs.declared.ids.ScopeId.{ScopeId}
use Rattle.es_scope.specs.Bindings.{AreBound, bound_in}
use Rattle.es_scope.specs.Mutations.{AreWritten, mutated_in}
use Rattle.es_scope.specs.Numbers.{numbers}
use Rattle.es_scope.specs.Outwards.{AreOutwards, IsInside, parent_in}
use Rattle.es_scope.specs.TableChanges.{HasScopeMore, SameBindings, SameSymbols, with_item, with_last}
use Rattle.es_scope.specs.TableSettings.{InsertsScope, MovesScope, SameBesideScopes, SetsScopeFlags, SetsSymbolFlags, below, is_one_of}
use Rattle.es_scope.specs.Tables.{parent_of, scope_count, symbol_count}
use Rattle.es_scope.specs.declared.flags.ScopeFlags.{ScopeFlags}
use Rattle.es_scope.specs.declared.scoping.Reference.{Reference}
use Rattle.es_scope.specs.declared.scoping.Scope.{Scope}
use Rattle.es_scope.specs.declared.scoping.Scoping.{Scoping}
use Rattle.es_scope.specs.declared.scoping.Symbol.{Symbol}
use Rattle.es_scope.proofs.ChangedItems.{length_changed, said_same, said_set}
use Rattle.es_scope.proofs.Outward.{outwards-moved, outwards-same, parent-outside, sibling-outside}
use Rattle.es_scope.proofs.TableReferences.{eqb_turned, or_false}
use Rattle.es_scope.proofs.TableSteps.{same_references, same_scopes, same_symbols}

-- ONE SCOPE CHANGED

beside_scopes : (old new : Scoping) → SameBindings old new → new.symbols.items ≡ old.symbols.items → new.references.items ≡ old.references.items → SameBesideScopes old new
beside_scopes old new b t r = record {
  bindings = b;
  symbols = same_symbols old new t;
  mutated = λ n. ap (λ bs. mutated_in bs n) t;
  references = same_references old new r;
}

module _ (xs : List Scope) (i : ℕ) (c d : Scope) (l : i < length xs) (is : d ≡ get_or xs i d) where
  parents_same : c.parent ≡ d.parent → (n : ℕ) → parent_in (set xs i c) n ≡ parent_in xs n
  parents_same p n = said_same (λ o. option_and_then (λ k. scope k.parent) o) xs i c d n l is (ap scope p)

  bindings_same : c.bindings ≡ d.bindings → (n : ℕ) (x : Text) → bound_in (set xs i c) n x ≡ bound_in xs n x
  bindings_same b n x = said_same (λ o. option_and_then (λ k. numbers k.bindings x) o) xs i c d n l is (ap (λ m. numbers m x) b)

  pub outwards_changed : c.parent ≡ d.parent → AreOutwards xs → AreOutwards (set xs i c)
  outwards_changed p o = outwards-same xs (set xs i c) (length_changed xs i c) (parents_same p) o

  pub bound_below : (symbols : List Symbol) → c.bindings ≡ d.bindings → AreBound xs symbols → AreBound (set xs i c) symbols
  bound_below symbols b h = λ n x m e. h n x m (sym (bindings_same b n x) ∙ e)

pub scope_flags_set : (old new : Scoping) (i : ℕ) (c d : Scope) → i < scope_count old → d ≡ get_or old.scopes.items i d → c.parent ≡ d.parent → c.bindings ≡ d.bindings → new.scopes.items ≡ set old.scopes.items i c → new.symbols.items ≡ old.symbols.items → new.references.items ≡ old.references.items → SetsScopeFlags old new i c.flags
scope_flags_set old new i c d l is p b s t r = record {
  count = ap length s ∙ length_changed old.scopes.items i c;
  parents = λ n. ap (λ cs. parent_in cs n) s ∙ parents_same old.scopes.items i c d l is p n;
  flags_are = λ n. ap (λ cs. option_map (λ k. k.flags) (slice_get cs n)) s ∙ said_set (λ o. option_map (λ k. k.flags) o) old.scopes.items i c c.flags n l refl;
  beside = beside_scopes old new (λ n x. ap (λ cs. bound_in cs n x) s ∙ bindings_same old.scopes.items i c d l is b n x) t r;
}

parents_set : (xs : List Scope) (i : ℕ) (c : Scope) (parent : ScopeId) → i < length xs → c.parent ≡ Some parent → (n : ℕ) → parent_in (set xs i c) n ≡ with_item i parent.0 (parent_in xs) n
parents_set xs i c parent l p n = said_set (λ o. option_and_then (λ k. scope k.parent) o) xs i c parent.0 n l (ap scope p)

pub outwards_set : (xs : List Scope) (i : ℕ) (c : Scope) (parent : ScopeId) → i < length xs → c.parent ≡ Some parent → 0 < i → parent.0 < length xs → (IsInside (parent_in xs) i parent.0 → ⊥) → AreOutwards xs → AreOutwards (set xs i c)
outwards_set xs i c parent l p inner k outside o = outwards-moved xs (set xs i c) i parent.0 inner k outside (length_changed xs i c) (parents_set xs i c parent l p) o

pub scope_moved : (old new : Scoping) (i : ℕ) (c d : Scope) (parent : ScopeId) → i < scope_count old → d ≡ get_or old.scopes.items i d → c.parent ≡ Some parent → c.flags ≡ d.flags → c.bindings ≡ d.bindings → new.scopes.items ≡ set old.scopes.items i c → new.symbols.items ≡ old.symbols.items → new.references.items ≡ old.references.items → MovesScope old new i parent.0
scope_moved old new i c d parent l is p f b s t r = record {
  count = ap length s ∙ length_changed old.scopes.items i c;
  parents = λ n. ap (λ cs. parent_in cs n) s ∙ parents_set old.scopes.items i c parent l p n;
  flags = λ n. ap (λ cs. option_map (λ k. k.flags) (slice_get cs n)) s ∙ said_same (λ o. option_map (λ k. k.flags) o) old.scopes.items i c d n l is (ap Some f);
  beside = beside_scopes old new (λ n x. ap (λ cs. bound_in cs n x) s ∙ bindings_same old.scopes.items i c d l is b n x) t r;
}

-- ONE SYMBOL CHANGED

module _ (xs : List Symbol) (i : ℕ) (c d : Symbol) (l : i < length xs) (is : d ≡ get_or xs i d) where
  -- what is said alike of both
  pub alike : {B : Type 0} (f : Symbol → B) → f c ≡ f d → (n : ℕ) → option_map f (slice_get (set xs i c) n) ≡ option_map f (slice_get xs n)
  alike f e n = said_same (option_map f) xs i c d n l is (ap Some e)

  pub bound_alike : (scopes : List Scope) → c.scope.0 ≡ d.scope.0 → c.name ≡ d.name → AreBound scopes xs → AreBound scopes (set xs i c)
  bound_alike scopes s x h = λ n y m e. record {
    place = alike (λ b. b.scope.0) s m ∙ (h n y m e).place;
    called = alike (λ b. string_bytes b.name) (ap string_bytes x) m ∙ (h n y m e).called;
  }

  pub mutated_alike : c.mutated ≡ d.mutated → (n : ℕ) → mutated_in (set xs i c) n ≡ mutated_in xs n
  mutated_alike e n = ap (λ o. unwrap_or o false) (alike (λ b. b.mutated) e n)

  pub written_same : (references : List Reference) → c.mutated ≡ d.mutated → AreWritten xs references → AreWritten (set xs i c) references
  written_same references e h = λ n. mutated_alike e n ∙ h n

pub symbols_alike : (old new : Scoping) (i : ℕ) (c d : Symbol) → i < symbol_count old → d ≡ get_or old.symbols.items i d → c.scope ≡ d.scope → c.name ≡ d.name → c.flags ≡ d.flags → new.symbols.items ≡ set old.symbols.items i c → SameSymbols old new
symbols_alike old new i c d l is p x f t = record {
  count = ap length t ∙ length_changed old.symbols.items i c;
  scopes = λ n. ap (λ bs. option_map (λ b. b.scope.0) (slice_get bs n)) t ∙ alike old.symbols.items i c d l is (λ b. b.scope.0) (ap (λ k. k.0) p) n;
  flags = λ n. ap (λ bs. option_map (λ b. b.flags) (slice_get bs n)) t ∙ alike old.symbols.items i c d l is (λ b. b.flags) f n;
  names = λ n. ap (λ bs. option_map (λ b. string_bytes b.name) (slice_get bs n)) t ∙ alike old.symbols.items i c d l is (λ b. string_bytes b.name) (ap string_bytes x) n;
}

pub symbol_flags_set : (old new : Scoping) (i : ℕ) (c d : Symbol) → i < symbol_count old → d ≡ get_or old.symbols.items i d → c.scope ≡ d.scope → c.name ≡ d.name → c.mutated ≡ d.mutated → new.scopes.items ≡ old.scopes.items → new.symbols.items ≡ set old.symbols.items i c → new.references.items ≡ old.references.items → SetsSymbolFlags old new i c.flags
symbol_flags_set old new i c d l is p x m s t r = record {
  scopes = same_scopes old new s;
  bindings = λ n y. ap (λ cs. bound_in cs n y) s;
  count = ap length t ∙ length_changed old.symbols.items i c;
  symbol_scopes = λ n. ap (λ bs. option_map (λ b. b.scope.0) (slice_get bs n)) t ∙ alike old.symbols.items i c d l is (λ b. b.scope.0) (ap (λ k. k.0) p) n;
  symbol_flags = λ n. ap (λ bs. option_map (λ b. b.flags) (slice_get bs n)) t ∙ said_set (λ o. option_map (λ b. b.flags) o) old.symbols.items i c c.flags n l refl;
  symbol_names = λ n. ap (λ bs. option_map (λ b. string_bytes b.name) (slice_get bs n)) t ∙ alike old.symbols.items i c d l is (λ b. string_bytes b.name) (ap string_bytes x) n;
  mutated = λ n. ap (λ bs. mutated_in bs n) t ∙ mutated_alike old.symbols.items i c d l is m n;
  references = same_references old new r;
}

-- SCOPES MOVED BELOW A NEW ONE

-- a scope that has a parent is of the table
pub parent_within : (xs : List Scope) (n up : ℕ) → parent_in xs n ≡ Some up → n < length xs
parent_within [] n up e = absurd (cc)
parent_within (c ∷ xs) zero up e = omega arith
parent_within (c ∷ xs) (suc n) up e = omega (arith, parent_within xs n up e)

before : (n count : ℕ) → n < count → (n == count) ≡ false
before n count l = at (n == count) refl where
  at : (b : Bool) → (n == count) ≡ b → b ≡ false
  at true g = absurd (omega (arith, l, eqb-true n count g))
  at false g = refl

or_true : (b : Bool) → (b || true) ≡ true
or_true true = refl
or_true false = refl

-- a list of scopes with one more
one_of_more : (xs : List ScopeId) (i : ℕ) (d : ScopeId) (n : ℕ) → i < length xs → is_one_of (take (i + 1) xs) n ≡ (is_one_of (take i xs) n || (get_or xs i d).0 == n)
one_of_more xs i d n l = list_any_more (λ c. c.0 == n) xs i d l

pub one_of_at : (xs : List ScopeId) (i : ℕ) (d : ScopeId) → i < length xs → is_one_of xs (get_or xs i d).0 ≡ true
one_of_at xs i d l = list_any_at (λ c. c.0 == (get_or xs i d).0) xs i d l (eq-eqb (get_or xs i d).0 (get_or xs i d).0 refl)

same_tests : (n m : ℕ) → (n == m) ≡ (m == n)
same_tests n m = at (n == m) refl where
  at : (b : Bool) → (n == m) ≡ b → b ≡ (m == n)
  at true g = sym (eq-eqb m n (sym (eqb-true n m g)))
  at false g = sym (eqb_turned n m g)

-- a scope more, with none moved yet
pub none_moved : (old new : Scoping) (parent : ℕ) (flags : ScopeFlags) → HasScopeMore old new parent flags → InsertsScope old new parent flags (is_one_of [])
none_moved old new parent flags h = record {
  count = h.count;
  parents = h.parents;
  flags_are = h.flags_are;
  beside = record { bindings = h.bindings; symbols = h.symbols; mutated = h.mutated; references = h.references };
}

-- the bindings, symbols and references through two changes
pub beside_then : (a b c : Scoping) → SameBesideScopes a b → SameBesideScopes b c → SameBesideScopes a c
beside_then a b c f g = record {
  bindings = λ n x. g.bindings n x ∙ f.bindings n x;
  symbols = record {
    count = g.symbols.count ∙ f.symbols.count;
    scopes = λ n. g.symbols.scopes n ∙ f.symbols.scopes n;
    flags = λ n. g.symbols.flags n ∙ f.symbols.flags n;
    names = λ n. g.symbols.names n ∙ f.symbols.names n;
  };
  mutated = λ n. g.mutated n ∙ f.mutated n;
  references = record { count = g.references.count ∙ f.references.count; each = λ n. g.references.each n ∙ f.references.each n };
}

module _ (old mid : Scoping) (parent : ℕ) (flags : ScopeFlags) (xs : List ScopeId) (i : ℕ) (d : ScopeId) (l : i < length xs) (children : (n : ℕ) → is_one_of xs n ≡ true → parent_of old n ≡ Some parent) (h : InsertsScope old mid parent flags (is_one_of (take i xs))) where
  -- the next child, and its parent so far
  abbrev child : ℕ
  child = (get_or xs i d).0

  its_parent : parent_of old child ≡ Some parent
  its_parent = children child (one_of_at xs i d l)

  its_number : child < scope_count old
  its_number = parent_within old.scopes.items child parent its_parent

  pub child_known : child < scope_count mid
  child_known = omega (arith, its_number, h.count)

  pub child_inner : 0 < child
  child_inner = at (child == 0) refl where
    at : (b : Bool) → (child == 0) ≡ b → 0 < child
    at true g = absurd (let none : parent_of old child ≡ None = ap (parent_of old) (eqb-true child 0 g) ∙ old.outwards.outermost in let some = its_parent in cc)
    at false g = let other = eqb-false child 0 g in omega (arith, other)

  pub made_known : scope_count old < scope_count mid
  made_known = omega (arith, h.count)

  made_parent : parent_of mid (scope_count old) ≡ Some parent
  made_parent = h.parents (scope_count old) ∙ ap (λ b. if b then Some parent else below (is_one_of (take i xs)) (scope_count old) (parent_of old) (scope_count old)) (eq-eqb (scope_count old) (scope_count old) refl)

  -- the new scope doesn't stand in it, whether it was moved already or not
  pub made_outside : IsInside (parent_of mid) child (scope_count old) → ⊥
  made_outside = at (is_one_of (take i xs) child) refl where
    so_far : (b : Bool) → is_one_of (take i xs) child ≡ b → parent_of mid child ≡ (if b then Some (scope_count old) else Some parent)
    so_far b e =
        let inner : (child == scope_count old) ≡ false = before child (scope_count old) its_number in
        h.parents child ∙ (ap (λ v. if v then Some parent else below (is_one_of (take i xs)) (scope_count old) (parent_of old) child) inner ∙ (ap (λ v. if v then Some (scope_count old) else parent_of old child) e ∙ ap (λ o. if b then Some (scope_count old) else o) its_parent))

    at : (b : Bool) → is_one_of (take i xs) child ≡ b → IsInside (parent_of mid) child (scope_count old) → ⊥
    at true e = parent-outside (parent_of mid) mid.outwards.end child (scope_count old) (so_far true e)
    at false e = sibling-outside (parent_of mid) mid.outwards.end child (scope_count old) parent (λ f. omega (arith, its_number, f)) (so_far false e) made_parent

  pub moved_more : (new : Scoping) → MovesScope mid new child (scope_count old) → InsertsScope old new parent flags (is_one_of (take (i + 1) xs))
  moved_more new m = record {
    count = m.count ∙ h.count;
    parents = λ n. m.parents n ∙ (ap (λ o. if n == child then Some (scope_count old) else o) (h.parents n) ∙ at n (n == child) refl);
    flags_are = λ n. m.flags n ∙ h.flags_are n;
    beside = beside_then old mid new h.beside m.beside;
  } where
    at : (n : ℕ) (b : Bool) → (n == child) ≡ b →
        (if n == child then Some (scope_count old) else with_last (scope_count old) parent (below (is_one_of (take i xs)) (scope_count old) (parent_of old)) n) ≡ with_last (scope_count old) parent (below (is_one_of (take (i + 1) xs)) (scope_count old) (parent_of old)) n
    at n true g =
        let same = eqb-true n child g in
        let inner : (n == scope_count old) ≡ false = before n (scope_count old) (omega (arith, its_number, same)) in
        let one : is_one_of (take (i + 1) xs) n ≡ true = one_of_more xs i d n l ∙ (ap (λ v. is_one_of (take i xs) n || v) (sym (same_tests n child) ∙ g) ∙ or_true (is_one_of (take i xs) n)) in
        rw (g, inner, one) refl
    at n false g =
        let one : is_one_of (take (i + 1) xs) n ≡ is_one_of (take i xs) n = one_of_more xs i d n l ∙ (ap (λ v. is_one_of (take i xs) n || v) (sym (same_tests n child) ∙ g) ∙ or_false (is_one_of (take i xs) n)) in
        rw (g, one) refl
