-- The outermost scopes in a tree, by its marks: those that a scope around the tree takes (ECMA-262, 9.1).
use Rattle.std.specs.Prelude.{ℕ, zero, suc, ◌==◌, List, [], ◌∷◌, ◌++◌, Bool, true, false, ◌&&◌, ◌||◌, not, Option, Some, None, is_some, if◌then◌else◌}
use Rattle.es_tree.specs.References.{is_symbol as is_number}
use Rattle.es_tree.specs.Tree.{Tree, node, Fields, done, ◌then◌, Field, missing, one, many, statements, Trees, empty, ◌before◌}
use Rattle.es_tree.specs.declared.ast_type.AstType.{AstType}
use Rattle.es_tree.specs.declared.ast_type.AstType.TheVariants.{Identifier, SwitchStatement}
use Rattle.es_scope.specs.Tables.{parent_of}
use Rattle.es_scope.specs.declared.scoping.Scoping.{Scoping}

abbrev pub first_of : List (Option ℕ) → Option ℕ
first_of [] = None
first_of (m ∷ ms) = m

-- the scope that a node is marked with
abbrev pub scope_mark : AstType → List (Option ℕ) → Option ℕ
scope_mark Identifier ms = None
scope_mark k ms = first_of ms

abbrev pub is_switch : AstType → Bool
is_switch SwitchStatement = true
is_switch _ = false

-- whether what stands in this field is in no scope that the node is marked with: what a `switch` tests isn't either
abbrev pub is_outside : AstType → List (Option ℕ) → ℕ → Bool
is_outside k ms i = not (is_some (scope_mark k ms)) || (i == 0 && is_switch k)

-- Of a marked scope, what stands directly in this one: the scope itself or its parent, which is the scope of the name of a function
-- expression. Other scopes are none.
abbrev pub child_if : Scoping → ℕ → Option ℕ → List ℕ
child_if s up None = []
child_if s up (Some n) = if is_number up (parent_of s n) then n ∷ [] else []

abbrev pub outer_of : Scoping → ℕ → Option ℕ → List ℕ
outer_of s up None = []
outer_of s up (Some m) = if is_number up (parent_of s m) then m ∷ [] else child_if s up (parent_of s m)

abbrev mutual
  pub outer_scopes : Scoping → ℕ → Tree → List ℕ
  outer_scopes s up (node k l fs) = outer_of s up (scope_mark k l.marks) ++ outer_in_fields s up (is_outside k l.marks) fs

  pub outer_in_fields : Scoping → ℕ → (ℕ → Bool) → Fields → List ℕ
  outer_in_fields s up outside done = []
  outer_in_fields s up outside (f then fs) = outer_in_field s up (outside zero) f ++ outer_in_fields s up (λ i. outside (suc i)) fs

  pub outer_in_field : Scoping → ℕ → Bool → Field → List ℕ
  outer_in_field s up outside missing = []
  outer_in_field s up outside (one t) = if outside then outer_scopes s up t else []
  outer_in_field s up outside (many ts) = if outside then outer_in_trees s up ts else []
  outer_in_field s up outside (statements ts) = if outside then outer_in_trees s up ts else []

  pub outer_in_trees : Scoping → ℕ → Trees → List ℕ
  outer_in_trees s up empty = []
  outer_in_trees s up (t before ts) = outer_scopes s up t ++ outer_in_trees s up ts
