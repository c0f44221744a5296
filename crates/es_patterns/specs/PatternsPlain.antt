-- What each kind of node is seen as.
use Rattle.std.specs.Prelude.{map}
use Rattle.es_tree.specs.Tree.{Tree, fields, done, ◌then◌, one, many, trees}
use Rattle.es_tree.specs.Views.{plain, plain_field}
use Rattle.es_tree.specs.declared.kind.Kind.TheVariants.{
  ObjectPattern as k-ObjectPattern,
  PatternProperty as k-PatternProperty,
  ArrayPattern as k-ArrayPattern,
  AssignmentPattern as k-AssignmentPattern,
  RestElement as k-RestElement,
  ObjectTarget as k-ObjectTarget,
  TargetProperty as k-TargetProperty,
  ArrayTarget as k-ArrayTarget,
  TargetWithDefault as k-TargetWithDefault,
  TargetRest as k-TargetRest,
}
use Rattle.es_patterns.specs.declared.patterns.ObjectPattern.{ObjectPattern}
use Rattle.es_patterns.specs.declared.patterns.PatternProperty.{PatternProperty}
use Rattle.es_patterns.specs.declared.patterns.ArrayPattern.{ArrayPattern}
use Rattle.es_patterns.specs.declared.patterns.AssignmentPattern.{AssignmentPattern}
use Rattle.es_patterns.specs.declared.patterns.RestElement.{RestElement}
use Rattle.es_patterns.specs.declared.patterns.ObjectTarget.{ObjectTarget}
use Rattle.es_patterns.specs.declared.patterns.TargetProperty.{TargetProperty}
use Rattle.es_patterns.specs.declared.patterns.ArrayTarget.{ArrayTarget}
use Rattle.es_patterns.specs.declared.patterns.TargetWithDefault.{TargetWithDefault}
use Rattle.es_patterns.specs.declared.patterns.TargetRest.{TargetRest}

abbrev pub plain_object_pattern : ObjectPattern → Tree
plain_object_pattern e = plain e.id e.span (k-ObjectPattern) (many (trees e.properties.items) then done)

abbrev pub plain_pattern_property : PatternProperty → Tree
plain_pattern_property e = plain e.id e.span (k-PatternProperty e.shorthand e.computed) (one e.key then one e.value then done)

abbrev pub plain_array_pattern : ArrayPattern → Tree
plain_array_pattern e = plain e.id e.span (k-ArrayPattern) (fields (map plain_field e.elements.items))

abbrev pub plain_assignment_pattern : AssignmentPattern → Tree
plain_assignment_pattern e = plain e.id e.span (k-AssignmentPattern) (one e.left then one e.right then done)

abbrev pub plain_rest_element : RestElement → Tree
plain_rest_element e = plain e.id e.span (k-RestElement) (one e.argument then done)

abbrev pub plain_object_target : ObjectTarget → Tree
plain_object_target e = plain e.id e.span (k-ObjectTarget) (many (trees e.properties.items) then done)

abbrev pub plain_target_property : TargetProperty → Tree
plain_target_property e = plain e.id e.span (k-TargetProperty e.shorthand e.computed) (one e.key then one e.value then done)

abbrev pub plain_array_target : ArrayTarget → Tree
plain_array_target e = plain e.id e.span (k-ArrayTarget) (fields (map plain_field e.elements.items))

abbrev pub plain_target_with_default : TargetWithDefault → Tree
plain_target_with_default e = plain e.id e.span (k-TargetWithDefault) (one e.left then one e.right then done)

abbrev pub plain_target_rest : TargetRest → Tree
plain_target_rest e = plain e.id e.span (k-TargetRest) (one e.argument then done)
