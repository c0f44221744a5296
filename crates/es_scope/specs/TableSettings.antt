-- What a call sets or moves in a scope table, and what stays.
use Rattle.std.specs.Prelude.{◌≡◌, ℕ, ◌+◌, ◌==◌, Bool, List, Option, Some, None, bytes_eq, option_map, if◌then◌else◌}
use Rattle.std.specs.List.{list_any}
use Rattle.es_tree.specs.References.{Reference, is_symbol}
use Rattle.es_tree.specs.Words.{Text}
use Rattle.es_tree.specs.declared.ids.ScopeId.{ScopeId}
use Rattle.es_scope.specs.TableChanges.{SameBindings, SameMutated, SameReferences, SameScopes, SameSymbols, with_item, with_last}
use Rattle.es_scope.specs.Tables.{scope_count, parent_of, scope_flags_of, binding_in, symbol_count, symbol_scope_of, symbol_flags_of, symbol_name_of, called, is_mutated, is_written, reference_count, reference_at}
use Rattle.es_scope.specs.declared.flags.ReferenceFlags.{ReferenceFlags}
use Rattle.es_scope.specs.declared.flags.ScopeFlags.{ScopeFlags}
use Rattle.es_scope.specs.declared.flags.SymbolFlags.{SymbolFlags}
use Rattle.es_scope.specs.declared.scoping.Scoping.{Scoping}

-- SCOPES

-- the bindings, the symbols and the references
pub record SameBesideScopes (old new : Scoping) : Type 0 where
  pub bindings : SameBindings old new
  pub symbols : SameSymbols old new
  pub mutated : SameMutated old new
  pub references : SameReferences old new

-- this scope has these flags
pub record SetsScopeFlags (old new : Scoping) (scope : ℕ) (flags : ScopeFlags) : Type 0 where
  pub count : scope_count new ≡ scope_count old
  pub parents : (n : ℕ) → parent_of new n ≡ parent_of old n
  pub flags_are : (n : ℕ) → scope_flags_of new n ≡ with_item scope flags (scope_flags_of old) n
  pub beside : SameBesideScopes old new

-- this scope has this parent; what stands in it stays in it
pub record MovesScope (old new : Scoping) (scope parent : ℕ) : Type 0 where
  pub count : scope_count new ≡ scope_count old
  pub parents : (n : ℕ) → parent_of new n ≡ with_item scope parent (parent_of old) n
  pub flags : (n : ℕ) → scope_flags_of new n ≡ scope_flags_of old n
  pub beside : SameBesideScopes old new

-- the parents with those that pass the test below this one
abbrev pub below : (ℕ → Bool) → ℕ → (ℕ → Option ℕ) → ℕ → Option ℕ
below moves parent parents n = if moves n then Some parent else parents n

-- whether a number is that of one of these scopes
abbrev pub is_one_of : List ScopeId → ℕ → Bool
is_one_of scopes n = list_any (λ c. c.0 == n) scopes

abbrev pub has_number : List ℕ → ℕ → Bool
has_number ns n = list_any (λ m. m == n) ns

-- one scope more, with this parent and these flags, which binds nothing; the scopes that pass the test stand in it
pub record InsertsScope (old new : Scoping) (parent : ℕ) (flags : ScopeFlags) (moves : ℕ → Bool) : Type 0 where
  pub count : scope_count new ≡ scope_count old + 1
  pub parents : (n : ℕ) → parent_of new n ≡ with_last (scope_count old) parent (below moves (scope_count old) (parent_of old)) n
  pub flags_are : (n : ℕ) → scope_flags_of new n ≡ with_last (scope_count old) flags (scope_flags_of old) n
  pub beside : SameBesideScopes old new

-- SYMBOLS

-- this symbol has these flags
pub record SetsSymbolFlags (old new : Scoping) (symbol : ℕ) (flags : SymbolFlags) : Type 0 where
  pub scopes : SameScopes old new
  pub bindings : SameBindings old new
  pub count : symbol_count new ≡ symbol_count old
  pub symbol_scopes : (n : ℕ) → symbol_scope_of new n ≡ symbol_scope_of old n
  pub symbol_flags : (n : ℕ) → symbol_flags_of new n ≡ with_item symbol flags (symbol_flags_of old) n
  pub symbol_names : (n : ℕ) → symbol_name_of new n ≡ symbol_name_of old n
  pub mutated : SameMutated old new
  pub references : SameReferences old new

-- the bindings with this name bound in one scope no more, and to this symbol in another
abbrev pub moved : ℕ → ℕ → Text → ℕ → (ℕ → Text → Option ℕ) → ℕ → Text → Option ℕ
moved from to name symbol bindings n x = if bytes_eq name x then (if n == from then None else if n == to then Some symbol else bindings n x) else bindings n x

-- the binding of this symbol stands in the first of these scopes no more, and in the second
pub record MovesBinding (old new : Scoping) (from to symbol : ℕ) : Type 0 where
  pub scopes : SameScopes old new
  pub bindings : (n : ℕ) (x : Text) → binding_in new n x ≡ moved from to (called old symbol) symbol (binding_in old) n x
  pub count : symbol_count new ≡ symbol_count old
  pub symbol_scopes : (n : ℕ) → symbol_scope_of new n ≡ with_item symbol to (symbol_scope_of old) n
  pub symbol_flags : (n : ℕ) → symbol_flags_of new n ≡ symbol_flags_of old n
  pub symbol_names : (n : ℕ) → symbol_name_of new n ≡ symbol_name_of old n
  pub mutated : SameMutated old new
  pub references : SameReferences old new

-- REFERENCES

abbrev pub with_flags : ReferenceFlags → Reference → Reference
with_flags flags r = record r { read = flags.read; write = flags.write }

-- The reference of this number, if there is one, has these flags. A symbol is mutated then exactly where a reference writes it still.
pub record SetsReferenceFlags (old new : Scoping) (reference : Option ℕ) (flags : ReferenceFlags) : Type 0 where
  pub scopes : SameScopes old new
  pub bindings : SameBindings old new
  pub symbols : SameSymbols old new
  pub mutated : (n : ℕ) → is_mutated new n ≡ is_written new n
  pub count : reference_count new ≡ reference_count old
  pub references : (n : ℕ) → reference_at new n ≡ (if is_symbol n reference then option_map (with_flags flags) (reference_at old n) else reference_at old n)
