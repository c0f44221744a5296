-- The arity of each kind of node.
use Rattle.std.specs.Prelude.{[], ◌∷◌, ◌≡◌}
use Rattle.es_tree.specs.Tree.{Tree, kind_of}
use Rattle.es_tree.specs.declared.ast_type.AstType.TheVariants.{
  ObjectPattern,
  PatternProperty,
  ArrayPattern,
  AssignmentPattern,
  RestElement,
  ObjectTarget,
  TargetProperty,
  ArrayTarget,
  TargetWithDefault,
  TargetRest,
}
use Rattle.es_tree.specs.Arity.{Opens, required, list}

abbrev pub IsObjectPattern : Tree → Type 0
IsObjectPattern = Opens ObjectPattern (list ∷ [])

abbrev pub IsPatternProperty : Tree → Type 0
IsPatternProperty = Opens PatternProperty (required ∷ required ∷ [])

abbrev pub IsArrayPattern : Tree → Type 0
IsArrayPattern t = kind_of t ≡ ArrayPattern

abbrev pub IsAssignmentPattern : Tree → Type 0
IsAssignmentPattern = Opens AssignmentPattern (required ∷ required ∷ [])

abbrev pub IsRestElement : Tree → Type 0
IsRestElement = Opens RestElement (required ∷ [])

abbrev pub IsObjectTarget : Tree → Type 0
IsObjectTarget = Opens ObjectTarget (list ∷ [])

abbrev pub IsTargetProperty : Tree → Type 0
IsTargetProperty = Opens TargetProperty (required ∷ required ∷ [])

abbrev pub IsArrayTarget : Tree → Type 0
IsArrayTarget t = kind_of t ≡ ArrayTarget

abbrev pub IsTargetWithDefault : Tree → Type 0
IsTargetWithDefault = Opens TargetWithDefault (required ∷ required ∷ [])

abbrev pub IsTargetRest : Tree → Type 0
IsTargetRest = Opens TargetRest (required ∷ [])
