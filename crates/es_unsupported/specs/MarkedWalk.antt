-- A walk over a program with its marks, which tell the scopes around each node.
use Rattle.std.specs.Prelude.{◌≡◌, ℕ, zero, suc, ◌-◌, List, ◌∷◌, Bool, true, false, ◌&&◌, ◌||◌, not, ltb, Option, Some, None, if◌then◌else◌}
use Rattle.std.specs.Option.{option_or}
use Rattle.es_tree.specs.Tree.{Tree, node, Label, Fields, done, ◌then◌, Field, missing, one, many, statements, Trees, empty, ◌before◌}
use Rattle.es_tree.specs.Words.{Text}
use Rattle.es_tree.specs.declared.ast_type.AstType.{AstType}
use Rattle.es_tree.specs.declared.error.UnsupportedKind.{UnsupportedKind}
use Rattle.es_tree.specs.declared.options.EnvOptions.{EnvOptions}
use Rattle.es_scope.specs.Tables.{Finds}
use Rattle.es_scope.specs.declared.scoping.Scoping.{Scoping}
use Rattle.es_semantic.specs.Places.{first, has_name_scope, is_inside, makes_scope}
use Rattle.es_semantic.specs.SymbolsOf.{Declared, find}
use Rattle.es_unsupported.specs.ArrowShapes.{binds_arguments}
use Rattle.es_unsupported.specs.FirstUnsupported.{found_at}
use Rattle.es_unsupported.specs.NodePlaces.{node_place_in, place_shape}
use Rattle.es_unsupported.specs.Shapes.{shape_at}
use Rattle.es_unsupported.specs.declared.node_places.NodePlace.{NodePlace}
use Rattle.es_unsupported.specs.declared.scopes.FieldScopes.{FieldScopes}

-- SCOPES

-- the scope of a node's marks, of the program where they tell none
abbrev pub scope_mark : List (Option ℕ) → ℕ
scope_mark (Some n ∷ ms) = n
scope_mark _ = 0

-- The scopes around what stands in a field of a node. That of the name of a function expression is the one before its own.
abbrev pub around_marked : List ℕ → AstType → Label → Fields → ℕ → List ℕ
around_marked up k l fs i =
    let own = scope_mark l.marks in
    let around = if has_name_scope k fs then (own - 1) ∷ up else up in
    if makes_scope k && is_inside k i then own ∷ around else around

-- the innermost of them, as the walk holds it
abbrev pub scope_at : FieldScopes → ℕ → ℕ
scope_at scopes zero = scopes.first.0
scope_at scopes (suc i) = scopes.later.0

-- whether the scope of a node is one of a table that has this many
abbrev pub has_known_scope : ℕ → AstType → Label → Fields → Bool
has_known_scope count k l fs = not (makes_scope k) || ltb (scope_mark l.marks) count

-- REFERENCES

-- whether an identifier refers to its name: the first of its marks is its reference
abbrev pub refers_by_mark : List (Option ℕ) → Bool
refers_by_mark (Some n ∷ ms) = true
refers_by_mark _ = false

-- WHAT IS FOUND

abbrev mutual
  -- at the first node of a tree, in node order, that has a shape
  pub first_at : EnvOptions → List Declared → List ℕ → NodePlace → Tree → Option (UnsupportedKind × ℕ)
  first_at o ds up q (node k l fs) =
      option_or (found_at l.id (option_or (shape_at o ds up k l fs) (place_shape o q (refers_by_mark l.marks) k l fs)))
      (first_in_fields o ds (around_marked up k l fs) (node_place_in o (binds_arguments ds (scope_mark l.marks) k) q k l fs) fs)

  pub first_in_fields : EnvOptions → List Declared → (ℕ → List ℕ) → (ℕ → Field → NodePlace) → Fields → Option (UnsupportedKind × ℕ)
  first_in_fields o ds ups qs done = None
  first_in_fields o ds ups qs (f then fs) = option_or (first_in_field o ds (ups zero) (qs zero f) f) (first_in_fields o ds (λ i. ups (suc i)) (λ i. qs (suc i)) fs)

  pub first_in_field : EnvOptions → List Declared → List ℕ → NodePlace → Field → Option (UnsupportedKind × ℕ)
  first_in_field o ds up q missing = None
  first_in_field o ds up q (one t) = first_at o ds up q t
  first_in_field o ds up q (many ts) = first_in_trees o ds up q ts
  first_in_field o ds up q (statements ts) = first_in_trees o ds up q ts

  pub first_in_trees : EnvOptions → List Declared → List ℕ → NodePlace → Trees → Option (UnsupportedKind × ℕ)
  first_in_trees o ds up q empty = None
  first_in_trees o ds up q (t before ts) = option_or (first_at o ds up q t) (first_in_trees o ds up q ts)

-- LOOK-UP (ECMA-262, 9.1.2.1)

-- what look-up finds from the innermost of these scopes is the symbol in the first of them that binds the name
abbrev pub FindsFrom : Scoping → List Declared → List ℕ → Type 0
FindsFrom s ds up = (x : Text) (m : Option ℕ) → Finds s x (first up) m → m ≡ find ds up x

-- so it is at every node of a tree
abbrev mutual
  pub LooksUp : Scoping → List Declared → List ℕ → Tree → Type 0
  LooksUp s ds up (node k l fs) = FindsFrom s ds up × LooksUpInFields s ds (around_marked up k l fs) fs

  pub LooksUpInFields : Scoping → List Declared → (ℕ → List ℕ) → Fields → Type 0
  LooksUpInFields s ds ups done = Unit {0}
  LooksUpInFields s ds ups (f then fs) = LooksUpInField s ds (ups zero) f × LooksUpInFields s ds (λ i. ups (suc i)) fs

  pub LooksUpInField : Scoping → List Declared → List ℕ → Field → Type 0
  LooksUpInField s ds up missing = Unit {0}
  LooksUpInField s ds up (one t) = LooksUp s ds up t
  LooksUpInField s ds up (many ts) = LooksUpInTrees s ds up ts
  LooksUpInField s ds up (statements ts) = LooksUpInTrees s ds up ts

  pub LooksUpInTrees : Scoping → List Declared → List ℕ → Trees → Type 0
  LooksUpInTrees s ds up empty = Unit {0}
  LooksUpInTrees s ds up (t before ts) = LooksUp s ds up t × LooksUpInTrees s ds up ts
