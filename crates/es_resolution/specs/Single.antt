-- Each symbol is bound by one scope: so a name that refers to a symbol refers to that scope's binding, and to no other.
use Rattle.std.specs.Prelude.{ℕ, zero, suc, ◌+◌, ◌≤◌, List, Bool, true, false, not, ◌&&◌, ◌||◌, if◌then◌else◌}
use Rattle.std.specs.List.{list_any}
use Rattle.es_tree.specs.Words.{Text}
use Rattle.es_tree.specs.References.{is_symbol}
use Rattle.es_tree.specs.Tree.{Tree, node, Label, Fields, done, ◌then◌, Field, missing, one, many, statements, Trees, empty, ◌before◌}
use Rattle.es_tree.specs.declared.ast_type.AstType.{AstType}
use Rattle.es_semantic.specs.RolesOf.{reads, role_at}
use Rattle.es_semantic.specs.declared.place.Role.{Role}
use Rattle.es_resolution.specs.Declarations.{Bound, has_scope, is_var_scope}
use Rattle.es_resolution.specs.Resolved.{name_frame, frame, var_frame, parameters_in, no_name}

abbrev pub is_it : ℕ → Bound → Bool
is_it s b = is_symbol s b.symbol

-- whether a scope with these names binds the symbol
abbrev pub binds : ℕ → List Bound → Bool
binds s bs = list_any (is_it s) bs

-- a `var` of a parameter's name is no binding of the body (10.2.11)
abbrev pub is_var_of : ℕ → (Text → Bool) → Bound → Bool
is_var_of s parameters b = is_it s b && not (parameters b.name)

abbrev pub own_binds : ℕ → (Text → Bool) → AstType → Label → (ℕ → Role) → Fields → Bool
own_binds s parameters k l roles fs = if has_scope k then binds s (frame k l roles fs) || (if is_var_scope k then list_any (is_var_of s parameters) (var_frame roles fs) else false) else false

abbrev pub one_if : Bool → ℕ
one_if true = 1
one_if false = 0

abbrev mutual
  -- how many scopes of a tree bind the symbol, where it has the body of a function with these parameters
  pub scopes_with : ℕ → (Text → Bool) → Role → Tree → ℕ
  scopes_with s parameters r (node k l fs) = one_if (binds s (name_frame k (role_at r k l fs) fs)) + one_if (own_binds s parameters k l (role_at r k l fs) fs) + scopes_in s (parameters_in k l (role_at r k l fs) fs) (role_at r k l fs) fs

  pub scopes_in : ℕ → (Text → Bool) → (ℕ → Role) → Fields → ℕ
  scopes_in s parameters roles done = 0
  scopes_in s parameters roles (f then fs) = scopes_by s parameters (roles zero) f + scopes_in s parameters (λ i. roles (suc i)) fs

  pub scopes_by : ℕ → (Text → Bool) → Role → Field → ℕ
  scopes_by s parameters r missing = 0
  scopes_by s parameters r (one t) = scopes_with s parameters r t
  scopes_by s parameters r (many ts) = scopes_among s parameters r ts
  scopes_by s parameters r (statements ts) = scopes_among s parameters r ts

  pub scopes_among : ℕ → (Text → Bool) → Role → Trees → ℕ
  scopes_among s parameters r empty = 0
  scopes_among s parameters r (t before ts) = scopes_with s parameters r t + scopes_among s parameters r ts

abbrev pub IsSingle : Tree → Type 0
IsSingle t = (s : ℕ) → scopes_with s no_name reads t ≤ 1
