-- What the walks over a program keep: their places, the scopes that a node makes, and the table so far.
use Rattle.std.specs.Prelude.{◌≡◌, ℕ, ◌<◌, List, ◌∷◌, ◌++◌, false, Some, None, length, option_map, option_and_then, slice_get, if◌then◌else◌}
use Rattle.es_tree.specs.Heads.{scope}
use Rattle.es_tree.specs.Tree.{Fields}
use Rattle.es_tree.specs.Words.{Text}
use Rattle.es_tree.specs.declared.ast_type.AstType.{AstType}
use Rattle.es_scope.specs.Tables.{scope_count, parent_of, scope_flags_of, binding_in, symbol_count, symbol_scope_of, symbol_flags_of, symbol_name_of, is_mutated, reference_count}
use Rattle.es_scope.specs.declared.scoping.Scoping.{Scoping}
use Rattle.es_semantic.specs.Places.{Place, Visit, has_name_scope, makes_scope, own_scope}
use Rattle.es_semantic.specs.ScopesOf.{ScopeRow, scopes_among}
use Rattle.es_semantic.specs.SymbolsOf.{Declared, symbol_flags, symbol_in, with_visits}
use Rattle.es_semantic.specs.TableOf.{parent}
use Rattle.es_semantic.specs.declared.place.OwnScopes.{OwnScopes}
use Rattle.es_semantic.specs.declared.place.Place.{Place as WalkPlace}

-- a place as a walk holds it
pub record StandsAs (held : WalkPlace) (p : Place) : Type 0 where
  pub role : held.role ≡ p.role
  pub outer : List ℕ
  pub around : p.around ≡ held.scope.0 ∷ outer
  pub hoist : held.hoist.0 ≡ p.hoist
  pub parameters : scope held.parameters ≡ p.parameters
  pub strict : held.strict ≡ p.strict

-- the scopes of a place are of the table
pub record IsKnown (held : WalkPlace) (count : ℕ) : Type 0 where
  pub scope_known : held.scope.0 < count
  pub hoist_known : held.hoist.0 < count
  pub parameters_known : (n : ℕ) → scope held.parameters ≡ Some n → n < count

-- the scopes that a node makes by itself, where n is the number of the next scope
pub record AreOwn (own : OwnScopes) (n : ℕ) (k : AstType) (fs : Fields) : Type 0 where
  pub name_is : scope own.name ≡ (if has_name_scope k fs then Some n else None)
  pub own_is : scope own.own ≡ (if makes_scope k then Some (own_scope n k fs) else None)

-- the scopes that a node makes by itself are of the table
pub record AreKnown (own : OwnScopes) (count : ℕ) : Type 0 where
  pub name_known : (n : ℕ) → scope own.name ≡ Some n → n < count
  pub own_known : (n : ℕ) → scope own.own ≡ Some n → n < count

-- A table has these scopes and these symbols, nothing writes a symbol, and there are no references.
pub record Holds (rows : List ScopeRow) (ds : List Declared) (s : Scoping) : Type 0 where
  pub all_scopes : scope_count s ≡ length rows
  pub parents : (n : ℕ) → parent_of s n ≡ option_and_then (λ r. parent r.around) (slice_get rows n)
  pub flags : (n : ℕ) → scope_flags_of s n ≡ option_map (λ r. r.flags) (slice_get rows n)
  pub bindings : (n : ℕ) (x : Text) → binding_in s n x ≡ symbol_in ds n x
  pub all_symbols : symbol_count s ≡ length ds
  pub symbol_scopes : (n : ℕ) → symbol_scope_of s n ≡ option_map (λ d. d.scope) (slice_get ds n)
  pub symbol_flags_are : (n : ℕ) → symbol_flags_of s n ≡ option_map (λ d. symbol_flags d.binding) (slice_get ds n)
  pub symbol_names : (n : ℕ) → symbol_name_of s n ≡ option_map (λ d. d.name) (slice_get ds n)
  pub mutated : (n : ℕ) → is_mutated s n ≡ false
  pub none_referred : reference_count s ≡ 0

-- the bindings of a table are those of these symbols
abbrev pub Binds : List Declared → Scoping → Type 0
Binds ds s = (n : ℕ) (x : Text) → binding_in s n x ≡ symbol_in ds n x

-- The scopes and the symbols of these nodes are added, where the first scope of them has the next number.
abbrev pub Adds : Scoping → Scoping → (ℕ → List Visit) → Type 0
Adds old new vs = (rows : List ScopeRow) (ds : List Declared) → Holds rows ds old → Holds (rows ++ scopes_among (vs (length rows))) (with_visits ds (vs (length rows))) new
