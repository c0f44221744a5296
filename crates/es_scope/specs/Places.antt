-- The places of a visit.
use Rattle.std.specs.Prelude.{◌≡◌, ℕ, ◌<◌, List, Some, Vec, map, reverse, slice_get, true}
use Rattle.es_tree.specs.Words.{Text}
use Rattle.es_scope.specs.Tables.{binding_in, scope_count}
use Rattle.es_scope.specs.Uids.{uses}
use Rattle.es_scope.specs.declared.ancestor.Ancestor.{Ancestor}
use Rattle.es_scope.specs.declared.ancestor.Place.{Place}
use Rattle.es_scope.specs.declared.scoping.Scoping.{Scoping}
use Rattle.es_scope.specs.declared.uids.UidGenerator.{UidGenerator}

-- the ancestors, innermost first
abbrev pub ancestors_in : List Place → List Ancestor
ancestors_in places = map (λ p. p.ancestor) (reverse places)

-- the scopes of the places, innermost first
abbrev pub scopes_in : List Place → List ℕ
scopes_in places = map (λ p. p.scope.0) (reverse places)

-- the scopes of the places are of the table
abbrev pub AreInTable : {X : Type 0} → Vec Place X → Scoping → Type 0
AreInTable places s = (n : ℕ) (p : Place) → slice_get places.items n ≡ Some p → p.scope.0 < scope_count s

-- every name that a scope binds is in use
abbrev pub AreInUse : Scoping → UidGenerator → Type 0
AreInUse s uids = (n : ℕ) (x : Text) (m : ℕ) → binding_in s n x ≡ Some m → uses uids x ≡ true
