-- What the walk that adds the references of a program asks of a table that has all scopes and symbols, and what it adds.
use Rattle.std.specs.Prelude.{◌≡◌, ℕ, ◌+◌, ◌-◌, List, [], ◌∷◌, ◌||◌, Option, Some, length, ltb, option_map, option_and_then, slice_get, if◌then◌else◌}
use Rattle.std.specs.List.{list_any}
use Rattle.es_tree.specs.References.{Reference, writes_symbol}
use Rattle.es_tree.specs.Words.{Text}
use Rattle.es_scope.specs.TableChanges.{SameBindings, SameScopes, SameSymbols}
use Rattle.es_scope.specs.Tables.{scope_count, parent_of, scope_flags_of, binding_in, symbol_count, symbol_scope_of, symbol_flags_of, is_mutated, reference_count, reference_at}
use Rattle.es_scope.specs.declared.scoping.Scoping.{Scoping}
use Rattle.es_semantic.specs.FieldPlaces.{held_at}
use Rattle.es_semantic.specs.Places.{Place, Visit}
use Rattle.es_semantic.specs.ScopesOf.{ScopeRow, scopes_among}
use Rattle.es_semantic.specs.SymbolsOf.{Declared, symbol_flags, symbol_in}
use Rattle.es_semantic.specs.TableOf.{parent}
use Rattle.es_semantic.specs.Walks.{StandsAs}
use Rattle.es_semantic.specs.declared.field_places.FieldPlaces.{FieldPlaces}
use Rattle.es_semantic.specs.declared.place.Place.{Place as WalkPlace}

-- WHAT IS ASKED

-- A table has these scopes and these symbols.
pub record HasNames (rows : List ScopeRow) (ds : List Declared) (s : Scoping) : Type 0 where
  pub all_scopes : scope_count s ≡ length rows
  pub parents : (n : ℕ) → parent_of s n ≡ option_and_then (λ r. parent r.around) (slice_get rows n)
  pub flags : (n : ℕ) → scope_flags_of s n ≡ option_map (λ r. r.flags) (slice_get rows n)
  pub bindings : (n : ℕ) (x : Text) → binding_in s n x ≡ symbol_in ds n x
  pub all_symbols : symbol_count s ≡ length ds
  pub symbol_scopes : (n : ℕ) → symbol_scope_of s n ≡ option_map (λ d. d.scope) (slice_get ds n)
  pub symbol_flags_are : (n : ℕ) → symbol_flags_of s n ≡ option_map (λ d. symbol_flags d.binding) (slice_get ds n)

-- Each of these scopes is one of the rows, with the rest of the list around it.
pub data IsChain (rows : List ScopeRow) : List ℕ → Type 0 where
  no_scope : IsChain rows []
  inside : {n : ℕ} {up : List ℕ} → option_map (λ r. r.around) (slice_get rows n) ≡ Some up → IsChain rows up → IsChain rows (n ∷ up)

-- these scopes stand among the rows, from n on
abbrev pub StandFrom : List ScopeRow → ℕ → List ScopeRow → Type 0
StandFrom rows n made = (i : ℕ) (r : ScopeRow) → slice_get made i ≡ Some r → slice_get rows (n + i) ≡ Some r

-- A place as the walk holds it, before it visits these nodes, the first of whose scopes has the number n.
pub record IsAt (held : WalkPlace) (p : Place) (rows : List ScopeRow) (ds : List Declared) (s : Scoping) (n : ℕ) (vs : List Visit) : Type 0 where
  pub stands : StandsAs held p
  pub names : HasNames rows ds s
  pub chain : IsChain rows p.around
  pub made : StandFrom rows n (scopes_among vs)

-- The places of the fields of a node, before a walk visits what stands in them.
pub record AreAt (held : FieldPlaces) (ps : ℕ → Place) (rows : List ScopeRow) (ds : List Declared) (s : Scoping) (n : ℕ) (vs : List Visit) : Type 0 where
  pub stands : (i : ℕ) → StandsAs (held_at held i) (ps i)
  pub names : HasNames rows ds s
  pub chains : (i : ℕ) → IsChain rows (ps i).around
  pub made : StandFrom rows n (scopes_among vs)

-- WHAT IS ADDED

-- what stands at each number, with more from this number on
abbrev pub with_more : {X : Type 0} → ℕ → List X → (ℕ → Option X) → ℕ → Option X
with_more count xs old n = if ltb n count then old n else slice_get xs (n - count)

-- These references more; those that write make their symbols mutated.
pub record HasReferencesMore (old new : Scoping) (more : List Reference) : Type 0 where
  pub scopes : SameScopes old new
  pub bindings : SameBindings old new
  pub symbols : SameSymbols old new
  pub mutated : (n : ℕ) → is_mutated new n ≡ (is_mutated old n || list_any (writes_symbol n) more)
  pub count : reference_count new ≡ reference_count old + length more
  pub references : (n : ℕ) → reference_at new n ≡ with_more (reference_count old) more (reference_at old) n
