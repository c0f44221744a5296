-- What a scope table says of its scopes, symbols and references by their numbers.
use Rattle.std.specs.Prelude.{◌≡◌, ℕ, Bool, false, not, ◌&&◌, [], Option, Some, None, length, ltb, option_map, slice_get, unwrap_or}
use Rattle.std.specs.List.{list_any}
use Rattle.es_tree.specs.Words.{Text}
use Rattle.es_tree.specs.References.{Reference}
use Rattle.es_scope.specs.Bindings.{bound_in, name_in, place_in}
use Rattle.es_scope.specs.Mutations.{mutated_in, writes}
use Rattle.es_scope.specs.Outwards.{parent_in}
use Rattle.es_scope.specs.PlainReferences.{plain_reference}
use Rattle.es_scope.specs.declared.flags.ScopeFlags.{ScopeFlags}
use Rattle.es_scope.specs.declared.flags.SymbolFlags.{SymbolFlags}
use Rattle.es_scope.specs.declared.scoping.Scoping.{Scoping}

-- SCOPES

abbrev pub scope_count : Scoping → ℕ
scope_count s = length s.scopes.items

-- the parent of a scope, if it has one
abbrev pub parent_of : Scoping → ℕ → Option ℕ
parent_of s n = parent_in s.scopes.items n

abbrev pub scope_flags_of : Scoping → ℕ → Option ScopeFlags
scope_flags_of s n = option_map (λ c. c.flags) (slice_get s.scopes.items n)

-- the symbol of a name in a scope alone
abbrev pub binding_in : Scoping → ℕ → Text → Option ℕ
binding_in s n x = bound_in s.scopes.items n x

-- The symbol of a name in the first scope, from this one outwards, that binds it; none where no scope does.
pub data Finds (s : Scoping) (x : Text) : ℕ → Option ℕ → Type 0 where
  found_here : {n m : ℕ} → binding_in s n x ≡ Some m → Finds s x n (Some m)
  found_outside : {n up : ℕ} {r : Option ℕ} → binding_in s n x ≡ None → parent_of s n ≡ Some up → Finds s x up r → Finds s x n r
  found_nowhere : {n : ℕ} → binding_in s n x ≡ None → parent_of s n ≡ None → Finds s x n None

-- SYMBOLS

abbrev pub symbol_count : Scoping → ℕ
symbol_count s = length s.symbols.items

abbrev pub symbol_scope_of : Scoping → ℕ → Option ℕ
symbol_scope_of s n = place_in s.symbols.items n

abbrev pub symbol_flags_of : Scoping → ℕ → Option SymbolFlags
symbol_flags_of s n = option_map (λ b. b.flags) (slice_get s.symbols.items n)

-- the name of a symbol of the table
abbrev pub symbol_name_of : Scoping → ℕ → Option Text
symbol_name_of s n = name_in s.symbols.items n

-- the name of a symbol, empty for one that isn't of the table
abbrev pub called : Scoping → ℕ → Text
called s n = unwrap_or (symbol_name_of s n) []

-- whether some reference writes the symbol
abbrev pub is_mutated : Scoping → ℕ → Bool
is_mutated s n = mutated_in s.symbols.items n

-- REFERENCES

abbrev pub reference_count : Scoping → ℕ
reference_count s = length s.references.items

abbrev pub reference_at : Scoping → ℕ → Option Reference
reference_at s n = option_map plain_reference (slice_get s.references.items n)

-- whether some reference of the table writes the symbol: of every table this is the same as `is_mutated`
abbrev pub is_written : Scoping → ℕ → Bool
is_written s n = list_any (writes n) s.references.items

-- STEADY NAMES

-- whether the symbol is one of the table that no reference writes
abbrev pub is_steady : Scoping → ℕ → Bool
is_steady s n = ltb n (symbol_count s) && not (is_mutated s n)

-- whether a symbol was found that no reference writes
abbrev pub is_found_steady : Scoping → Option ℕ → Bool
is_found_steady s None = false
is_found_steady s (Some n) = not (is_mutated s n)
