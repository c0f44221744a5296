-- Object patterns with a rest inside other patterns (ECMA-262, 14.3.3, 13.15.5): each is told at its own node, by what is known of its place.
use Rattle.std.specs.Prelude.{◌&&◌, Bool, Option, Some, None, is_some, if◌then◌else◌}
use Rattle.es_tree.specs.Constructs.{is_object_rest}
use Rattle.es_tree.specs.Tree.{Label, Fields}
use Rattle.es_tree.specs.declared.ast_type.AstType.{AstType}
use Rattle.es_tree.specs.declared.ast_type.AstType.TheVariants.{ArrayPattern, ArrayTarget, AssignmentPattern, ObjectPattern, ObjectTarget, PatternProperty, RestElement, TargetProperty, TargetRest, TargetWithDefault}
use Rattle.es_tree.specs.declared.error.UnsupportedKind.{UnsupportedKind}
use Rattle.es_tree.specs.declared.error.UnsupportedKind.TheVariants.{RestInArray, RestNested}
use Rattle.es_tree.specs.declared.options.EnvOptions.{EnvOptions}
use Rattle.es_unsupported.specs.declared.pattern_places.PatternPlace.{PatternPlace}
use Rattle.es_unsupported.specs.declared.pattern_places.PatternPlace.TheVariants.{Outside, InArray, InTarget}

-- What is known of what stands in a node of this kind, where it is known of the node itself. An assignment or a function in a default value or a key
-- begins anew.
abbrev pub pattern_place_in : PatternPlace → AstType → PatternPlace
pattern_place_in q ArrayPattern = InArray
pattern_place_in q RestElement = InArray
pattern_place_in q ObjectTarget = InTarget
pattern_place_in q TargetProperty = InTarget
pattern_place_in q ArrayTarget = InTarget
pattern_place_in q TargetWithDefault = InTarget
pattern_place_in q TargetRest = InTarget
pattern_place_in q ObjectPattern = q
pattern_place_in q PatternProperty = q
pattern_place_in q AssignmentPattern = q
pattern_place_in q _ = Outside

-- by what name a pattern with a rest is refused there, if it is
abbrev pub nested_shape : PatternPlace → Option UnsupportedKind
nested_shape Outside = None
nested_shape InArray = Some RestInArray
nested_shape InTarget = Some RestNested

-- of any node, where object rests are lowered
abbrev pub pattern_shape : EnvOptions → PatternPlace → AstType → Label → Fields → Option UnsupportedKind
pattern_shape o q k l fs = if is_some o.es2018.object_rest_spread && is_object_rest k l fs then nested_shape q else None

-- whether those that a node of this kind holds are told so, wherever it stands
abbrev pub nests_patterns : AstType → Bool
nests_patterns k = is_some (nested_shape (pattern_place_in Outside k))
