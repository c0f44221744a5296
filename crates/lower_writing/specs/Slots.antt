-- What the ancestors of a context say of slots, by their kinds and fields alone.
use Rattle.std.specs.Prelude.{ℕ, ◌==◌, ◌||◌, Bool, true, false, List, [], ◌∷◌, drop}
use Rattle.es_tree.specs.declared.ast_type.AstType.{AstType}
use Rattle.es_tree.specs.declared.ast_type.AstType.TheVariants.{ArrayPattern, ArrowFunctionExpression, AssignmentPattern, FunctionDeclaration, FunctionExpression, ObjectPattern, PatternProperty, PropertyDefinition, RestElement}
use Rattle.es_scope.specs.declared.ancestor.Ancestor.{Ancestor}
use Rattle.lower_temporaries.specs.Outward.{reaches}

abbrev pub is_class_field : AstType → Bool
is_class_field PropertyDefinition = true
is_class_field _ = false

-- whether this field of a node of this kind has parameters
abbrev pub is_parameter_at : AstType → ℕ → Bool
is_parameter_at FunctionDeclaration i = i == 1
is_parameter_at FunctionExpression i = i == 1
is_parameter_at ArrowFunctionExpression i = i == 0
is_parameter_at _ i = false

-- whether it has parts of the pattern that the node is
abbrev pub is_part_at : AstType → ℕ → Bool
is_part_at ObjectPattern i = i == 0
is_part_at ArrayPattern i = true
is_part_at PatternProperty i = i == 1
is_part_at AssignmentPattern i = i == 0
is_part_at RestElement i = i == 0
is_part_at _ i = false

-- whether an ancestor has parameters in its field, and one parts of a pattern
abbrev pub is_parameter_place : Ancestor → Bool
is_parameter_place a = is_parameter_at a.kind a.field

abbrev pub is_part_place : Ancestor → Bool
is_part_place a = is_part_at a.kind a.field

-- whether a pattern that stands here is a parameter, or a part of one
abbrev pub in_parameter : List Ancestor → Bool
in_parameter xs = reaches is_parameter_place is_part_place xs

-- whether the parent is one
abbrev pub reaches_parameter : List Ancestor → Bool
reaches_parameter xs = in_parameter (drop 1 xs)

-- whether what stands here is a slot, where one may stand
abbrev pub is_slot_at : List Ancestor → Bool
is_slot_at [] = false
is_slot_at (a ∷ up) = is_class_field a.kind || in_parameter up
