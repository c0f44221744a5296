-- The first node of a program that a run doesn't take, and why.
use Rattle.std.specs.Prelude.{◌≡◌, ℕ, zero, suc, ◌+◌, List, [], ◌∷◌, Option, None, option_map}
use Rattle.std.specs.Option.{option_or}
use Rattle.es_tree.specs.Tree.{Tree, node, Fields, done, ◌then◌, Field, missing, one, many, statements, Trees, empty, ◌before◌}
use Rattle.es_tree.specs.declared.error.UnsupportedKind.{UnsupportedKind}
use Rattle.es_tree.specs.declared.options.EnvOptions.{EnvOptions}
use Rattle.es_scope.specs.declared.scoping.Scoping.{Scoping}
use Rattle.es_semantic.specs.Places.{Place, Visit, outermost, own_scope, own_scope_count, place_in, scope_count_in, scope_count_in_field}
use Rattle.es_semantic.specs.ReferencesOf.{marked_program}
use Rattle.es_semantic.specs.SymbolsOf.{Declared, symbols_of}
use Rattle.es_semantic.specs.TableOf.{IsTableOf}
use Rattle.es_unsupported.specs.ArrowShapes.{binds_arguments, refers_by}
use Rattle.es_unsupported.specs.NodePlaces.{node_place_in, place_shape, program_place}
use Rattle.es_unsupported.specs.Shapes.{shape_at}
use Rattle.es_unsupported.specs.declared.node_places.NodePlace.{NodePlace}

-- what is found at a node of this id
abbrev pub found_at : ℕ → Option UnsupportedKind → Option (UnsupportedKind × ℕ)
found_at id shape = option_map (λ s. (s, id)) shape

-- at the first of these nodes that has a shape of the table
abbrev pub first_among : EnvOptions → List Declared → List Visit → Option (UnsupportedKind × ℕ)
first_among o ds [] = None
first_among o ds (v ∷ vs) = option_or (found_at v.label.id (shape_at o ds v.place.around v.kind v.label v.fields)) (first_among o ds vs)

-- At the first node of a tree, in node order, that has a shape of the table, or one that its place tells; where the scopes around are known, what else
-- is known of its place, and the number of the next scope.
abbrev mutual
  pub first_of : EnvOptions → List Declared → Place → NodePlace → ℕ → Tree → Option (UnsupportedKind × ℕ)
  first_of o ds p q n (node k l fs) =
      option_or (found_at l.id (option_or (shape_at o ds p.around k l fs) (place_shape o q (refers_by p.role) k l fs)))
      (first_of_fields o ds (place_in p n k l fs) (node_place_in o (binds_arguments ds (own_scope n k fs) k) q k l fs) (n + own_scope_count k fs) fs)

  pub first_of_fields : EnvOptions → List Declared → (ℕ → Place) → (ℕ → Field → NodePlace) → ℕ → Fields → Option (UnsupportedKind × ℕ)
  first_of_fields o ds ps qs n done = None
  first_of_fields o ds ps qs n (f then fs) = option_or (first_of_field o ds (ps zero) (qs zero f) n f) (first_of_fields o ds (λ i. ps (suc i)) (λ i. qs (suc i)) (n + scope_count_in_field f) fs)

  pub first_of_field : EnvOptions → List Declared → Place → NodePlace → ℕ → Field → Option (UnsupportedKind × ℕ)
  first_of_field o ds p q n missing = None
  first_of_field o ds p q n (one t) = first_of o ds p q n t
  first_of_field o ds p q n (many ts) = first_of_trees o ds p q n ts
  first_of_field o ds p q n (statements ts) = first_of_trees o ds p q n ts

  pub first_of_trees : EnvOptions → List Declared → Place → NodePlace → ℕ → Trees → Option (UnsupportedKind × ℕ)
  first_of_trees o ds p q n empty = None
  first_of_trees o ds p q n (t before ts) = option_or (first_of o ds p q n t) (first_of_trees o ds p q (n + scope_count_in t) ts)

-- The shape and the node of a program: the first node in node order that has a shape, and at it the first one.
abbrev pub first_unsupported : EnvOptions → Tree → Option (UnsupportedKind × ℕ)
first_unsupported o p = first_of o (symbols_of p) (outermost p) program_place 1 p

-- what `build_scoping` makes of a program: the program with its marks, and its table
pub record IsBuilt (p marked : Tree) (s : Scoping) : Type 0 where
  pub marks : marked ≡ marked_program p
  pub table : IsTableOf p s
