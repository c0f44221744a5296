-- The bindings and the symbols of a table.
use Rattle.std.specs.Prelude.{◌≡◌, ℕ, List, Option, Some, option_and_then, option_map, slice_get, string_bytes}
use Rattle.es_tree.specs.Words.{Text}
use Rattle.es_scope.specs.Numbers.{numbers}
use Rattle.es_scope.specs.declared.scoping.Scope.{Scope}
use Rattle.es_scope.specs.declared.scoping.Symbol.{Symbol}

-- the symbol of a name in the scope of this number
abbrev pub bound_in : List Scope → ℕ → Text → Option ℕ
bound_in scopes n x = option_and_then (λ c. numbers c.bindings x) (slice_get scopes n)

-- the scope in which the symbol of this number is bound, and its name
abbrev pub place_in : List Symbol → ℕ → Option ℕ
place_in symbols m = option_map (λ b. b.scope.0) (slice_get symbols m)

abbrev pub name_in : List Symbol → ℕ → Option Text
name_in symbols m = option_map (λ b. string_bytes b.name) (slice_get symbols m)

-- the symbol of this number has this scope and this name
pub record IsBoundAs (symbols : List Symbol) (scope : ℕ) (name : Text) (m : ℕ) : Type 0 where
  pub place : place_in symbols m ≡ Some scope
  pub called : name_in symbols m ≡ Some name

-- each scope binds symbols of its own alone, under their names
abbrev pub AreBound : List Scope → List Symbol → Type 0
AreBound scopes symbols = (n : ℕ) (x : Text) (m : ℕ) → bound_in scopes n x ≡ Some m → IsBoundAs symbols n x m
