-- A name that no symbol has is found nowhere, and one that no scope binds is that of none.
use Rattle.std.proofs.Common.{◌≡◌, ◌<◌, ◌≤◌, ℕ, suc, List, [], ◌∷◌, Bool, true, false, ◌&&◌, ◌||◌, Option, Some, None, is_some, inl, inr, bytes_eq, get_or, length, slice_get, if◌then◌else◌, refl, sym, ap, arith, eq-eqb, ◌∙◌}
use Rattle.std.proofs.lemmas.Option.{slice_get_cases}
use Rattle.std.specs.Prelude.{◌==◌, ◌⊎◌, option_map}
use Rattle.es_tree.specs.Words.{Text}
use Rattle.es_scope.specs.Tables.{binding_in, scope_count}
use Rattle.es_scope.specs.declared.scoping.Scope.{Scope}
use Rattle.es_scope.specs.declared.scoping.Scoping.{Scoping}
use Rattle.es_semantic.specs.SymbolsOf.{Declared, find, is_bound, is_symbol, symbol_in}
use Rattle.es_rest_shapes.specs.HelperNames.{binds_name}

neither : (a b : Bool) → (a || b) ≡ false → (a ≡ false) × (b ≡ false)
neither false b e = (refl, e)
neither true b e = absurd (cc)

unbound : (ds : List Declared) (x : Text) → binds_name x ds ≡ false → (s : ℕ) → is_bound ds s x ≡ false
unbound [] x none s = refl
unbound (d ∷ ds) x none s =
    let parts = neither (bytes_eq d.name x) (binds_name x ds) none in
    ap (λ b. ((d.scope == s) && b) || is_bound ds s x) parts.0 ∙ (off (d.scope == s) (is_bound ds s x) ∙ unbound ds x parts.1 s)
  where
    off : (a b : Bool) → ((a && false) || b) ≡ b
    off true b = refl
    off false b = refl

pub found_nowhere : (ds : List Declared) (x : Text) → binds_name x ds ≡ false → (up : List ℕ) → find ds up x ≡ None
found_nowhere ds x none [] = refl
found_nowhere ds x none (n ∷ up) = rw (unbound ds x none n) (found_nowhere ds x none up)

-- where no symbol has a name, it need not be looked up
never_bound : (x : Text) (ds : List Declared) (may : Bool) → may ≡ binds_name x ds → (up : List ℕ) → (may && is_some (find ds up x)) ≡ is_some (find ds up x)
never_bound x ds true e up = refl
never_bound x ds false e up = sym (ap is_some (found_nowhere ds x (sym e) up))

-- so what is asked where it is bound is asked only where a symbol has it
pub asked_where : (x : Text) (ds : List Declared) (up : List ℕ) (wanted asked : Bool) → wanted ≡ (asked && binds_name x ds) → (wanted && is_some (find ds up x)) ≡ (asked && is_some (find ds up x))
asked_where x ds up wanted true e = never_bound x ds wanted e up
asked_where x ds up wanted false e = ap (λ b. b && is_some (find ds up x)) e

-- a symbol in a scope has its name
pub named_in : (ds : List Declared) (s : ℕ) (x : Text) → is_some (symbol_in ds s x) ≡ true → binds_name x ds ≡ true
named_in [] s x e = absurd (cc e)
named_in (d ∷ ds) s x e = at (d.scope == s) (bytes_eq d.name x) (symbol_in ds s x) (named_in ds s x) e
  where
    at : (here named : Bool) (r : Option ℕ) → (is_some r ≡ true → binds_name x ds ≡ true) → is_some (if here && named then Some 0 else option_map suc r) ≡ true → (named || binds_name x ds) ≡ true
    at here true r more e = refl
    at true false (Some n) more e = more refl
    at false false (Some n) more e = more refl
    at true false None more e = absurd (cc e)
    at false false None more e = absurd (cc e)

-- where it is in no scope, no symbol has it
pub named_nowhere : (ds : List Declared) (x : Text) → ((s : ℕ) → symbol_in ds s x ≡ None) → binds_name x ds ≡ false
named_nowhere [] x none = refl
named_nowhere (d ∷ ds) x none = other (d.scope == d.scope) (bytes_eq d.name x) (symbol_in ds d.scope x) (same d.scope) (none d.scope) (named_nowhere ds x (λ s. tail (is_symbol s x d) (symbol_in ds s x) (none s)))
  where
    same : (n : ℕ) → (n == n) ≡ true
    same n = eq-eqb n n refl

    other : (here named : Bool) (r : Option ℕ) → here ≡ true → (if here && named then Some 0 else option_map suc r) ≡ None → binds_name x ds ≡ false → (named || binds_name x ds) ≡ false
    other here false r i e more = more
    other true true r i e more = absurd (cc e)
    other false true r i e more = absurd (cc i)

    tail : (b : Bool) (r : Option ℕ) → (if b then Some 0 else option_map suc r) ≡ None → r ≡ None
    tail true r e = absurd (cc e)
    tail false None e = refl
    tail false (Some n) e = absurd (cc e)

-- a name that none of a table's scopes binds is bound at no number
pub none_bound : (s : Scoping) (x : Text) (count : ℕ) → scope_count s ≤ count → ((n : ℕ) → n < count → binding_in s n x ≡ None) → (n : ℕ) → binding_in s n x ≡ None
none_bound s x count all none n = at (slice_get_cases s.scopes.items n).1
  where
    at : (((c : Scope) × (n < length s.scopes.items) × (slice_get s.scopes.items n ≡ Some c) × (get_or s.scopes.items n c ≡ c)) ⊎ ((length s.scopes.items ≤ n) × (slice_get s.scopes.items n ≡ None))) → binding_in s n x ≡ None
    at (inl h) = none n (let l = h.1 in omega (arith, l, all))
    at (inr h) = rw (h.1) refl
