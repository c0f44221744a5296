-- What a change of a scope table keeps, and what it adds.
use Rattle.std.specs.Prelude.{◌≡◌, ℕ, ◌+◌, ◌==◌, ◌&&◌, ◌||◌, Option, Some, None, bytes_eq, if◌then◌else◌}
use Rattle.es_tree.specs.Words.{Text}
use Rattle.es_tree.specs.References.{Reference, writes_symbol}
use Rattle.es_scope.specs.Tables.{scope_count, parent_of, scope_flags_of, binding_in, symbol_count, symbol_scope_of, symbol_flags_of, symbol_name_of, is_mutated, reference_count, reference_at}
use Rattle.es_scope.specs.declared.flags.ScopeFlags.{ScopeFlags}
use Rattle.es_scope.specs.declared.flags.SymbolFlags.{SymbolFlags}
use Rattle.es_scope.specs.declared.scoping.Scoping.{Scoping}

-- WHAT STAYS

-- the scopes, without their bindings
pub record SameScopes (old new : Scoping) : Type 0 where
  pub count : scope_count new ≡ scope_count old
  pub parents : (n : ℕ) → parent_of new n ≡ parent_of old n
  pub flags : (n : ℕ) → scope_flags_of new n ≡ scope_flags_of old n

abbrev pub SameBindings : Scoping → Scoping → Type 0
SameBindings old new = (n : ℕ) (x : Text) → binding_in new n x ≡ binding_in old n x

-- the symbols, without what writes them
pub record SameSymbols (old new : Scoping) : Type 0 where
  pub count : symbol_count new ≡ symbol_count old
  pub scopes : (n : ℕ) → symbol_scope_of new n ≡ symbol_scope_of old n
  pub flags : (n : ℕ) → symbol_flags_of new n ≡ symbol_flags_of old n
  pub names : (n : ℕ) → symbol_name_of new n ≡ symbol_name_of old n

abbrev pub SameMutated : Scoping → Scoping → Type 0
SameMutated old new = (n : ℕ) → is_mutated new n ≡ is_mutated old n

pub record SameReferences (old new : Scoping) : Type 0 where
  pub count : reference_count new ≡ reference_count old
  pub each : (n : ℕ) → reference_at new n ≡ reference_at old n

-- no scope more or less, and no binding: what is left of a change that memory did not suffice for
pub record SameNames (old new : Scoping) : Type 0 where
  pub scopes : scope_count new ≡ scope_count old
  pub bindings : SameBindings old new

-- WHAT A TABLE BEGINS WITH

-- one scope, without parent and with these flags, which binds nothing
pub record IsRootAlone (flags : ScopeFlags) (s : Scoping) : Type 0 where
  pub count : scope_count s ≡ 1
  pub parent : parent_of s 0 ≡ None
  pub flags_are : scope_flags_of s 0 ≡ Some flags
  pub bindings : (n : ℕ) (x : Text) → binding_in s n x ≡ None
  pub symbols : symbol_count s ≡ 0
  pub references : reference_count s ≡ 0

-- WHAT IS ADDED

-- the numbers of what is there, with this one at its number
abbrev pub with_item : {X : Type 0} → ℕ → X → (ℕ → Option X) → ℕ → Option X
with_item i x old n = if n == i then Some x else old n

-- the numbers of what is there, with one more
abbrev pub with_last : {X : Type 0} → ℕ → X → (ℕ → Option X) → ℕ → Option X
with_last count x old n = with_item count x old n

-- one scope more, with this parent and these flags, which binds nothing
pub record HasScopeMore (old new : Scoping) (parent : ℕ) (flags : ScopeFlags) : Type 0 where
  pub count : scope_count new ≡ scope_count old + 1
  pub parents : (n : ℕ) → parent_of new n ≡ with_last (scope_count old) parent (parent_of old) n
  pub flags_are : (n : ℕ) → scope_flags_of new n ≡ with_last (scope_count old) flags (scope_flags_of old) n
  pub bindings : SameBindings old new
  pub symbols : SameSymbols old new
  pub mutated : SameMutated old new
  pub references : SameReferences old new

-- one symbol more, of these flags, which this scope binds to this name, and which nothing writes
pub record HasBindingMore (old new : Scoping) (scope : ℕ) (name : Text) (flags : SymbolFlags) : Type 0 where
  pub scopes : SameScopes old new
  pub bindings : (n : ℕ) (x : Text) → binding_in new n x ≡ (if n == scope && bytes_eq name x then Some (symbol_count old) else binding_in old n x)
  pub count : symbol_count new ≡ symbol_count old + 1
  pub symbol_scopes : (n : ℕ) → symbol_scope_of new n ≡ with_last (symbol_count old) scope (symbol_scope_of old) n
  pub symbol_flags : (n : ℕ) → symbol_flags_of new n ≡ with_last (symbol_count old) flags (symbol_flags_of old) n
  pub symbol_names : (n : ℕ) → symbol_name_of new n ≡ with_last (symbol_count old) name (symbol_name_of old) n
  pub mutated : SameMutated old new
  pub references : SameReferences old new

-- one reference more; one that writes makes its symbol mutated
pub record HasReferenceMore (old new : Scoping) (reference : Reference) : Type 0 where
  pub scopes : SameScopes old new
  pub bindings : SameBindings old new
  pub symbols : SameSymbols old new
  pub mutated : (n : ℕ) → is_mutated new n ≡ (is_mutated old n || writes_symbol n reference)
  pub count : reference_count new ≡ reference_count old + 1
  pub references : (n : ℕ) → reference_at new n ≡ with_last (reference_count old) reference (reference_at old) n
