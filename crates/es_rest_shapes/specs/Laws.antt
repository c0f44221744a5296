-- The laws of patterns with a rest: where none is declared or assigned to, and none stands elsewhere, there is none.
use Rattle.std.specs.Prelude.{◌≡◌, false}
use Rattle.es_tree.specs.Bare.{bare}
use Rattle.es_tree.specs.Constructs.{is_object_rest}
use Rattle.es_tree.specs.Tree.{Fields, Label, Tree}
use Rattle.es_tree.specs.Walks.{any_in_fields, any_node}
use Rattle.es_tree.specs.declared.ast_type.AstType.{AstType}
use Rattle.es_tree.specs.RestTargets.{is_rest_assignment}
use Rattle.es_rest_shapes.specs.RestShapes.{is_misplaced, is_rest_declaration, is_stray_rest}

-- a tree that is none itself
abbrev pub LawNoneLeft : Type 0
LawNoneLeft = (t : Tree) → is_misplaced t ≡ false → any_node is_stray_rest t ≡ false → any_node is_rest_declaration t ≡ false → any_node is_rest_assignment t ≡ false → any_node is_object_rest t ≡ false

-- and what is declared is one
abbrev pub LawDeclaredRests : Type 0
LawDeclaredRests = (t : Tree) → any_node is_object_rest t ≡ false → any_node is_rest_declaration t ≡ false

-- and what is assigned to
abbrev pub LawAssignedRests : Type 0
LawAssignedRests = (t : Tree) → any_node is_object_rest t ≡ false → any_node is_rest_assignment t ≡ false

-- nor does a node hold one where it isn't lowered, if none stands in it
abbrev pub LawQuiet : Type 0
LawQuiet = (k : AstType) (l : Label) (fs : Fields) → any_in_fields is_object_rest fs ≡ false → is_stray_rest k l fs ≡ false

-- IDS AND MARKS mean nothing to them.
pub record MeansNothing (t u : Tree) : Type 0 where
  pub strays : any_node is_stray_rest u ≡ any_node is_stray_rest t
  pub declared : any_node is_rest_declaration u ≡ any_node is_rest_declaration t
  pub assigned : any_node is_rest_assignment u ≡ any_node is_rest_assignment t

abbrev pub LawBareRests : Type 0
LawBareRests = (t u : Tree) → bare t ≡ bare u → MeansNothing t u
