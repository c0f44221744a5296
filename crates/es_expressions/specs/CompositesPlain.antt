-- What each kind of node is seen as.
use Rattle.std.specs.Prelude.{map}
use Rattle.es_tree.specs.Tree.{Tree, fields, done, ◌then◌, one, many, trees}
use Rattle.es_tree.specs.Arity.{maybe}
use Rattle.es_tree.specs.Views.{plain, plain_field}
use Rattle.es_tree.specs.declared.kind.Kind.TheVariants.{
  ArrayExpression as k-ArrayExpression,
  SpreadElement as k-SpreadElement,
  ObjectExpression as k-ObjectExpression,
  ObjectProperty as k-ObjectProperty,
  FunctionExpression as k-FunctionExpression,
  ArrowFunctionExpression as k-ArrowFunctionExpression,
  ClassExpression as k-ClassExpression,
}
use Rattle.es_expressions.specs.declared.composites.ArrayExpression.{ArrayExpression}
use Rattle.es_expressions.specs.declared.composites.SpreadElement.{SpreadElement}
use Rattle.es_expressions.specs.declared.composites.ObjectExpression.{ObjectExpression}
use Rattle.es_expressions.specs.declared.composites.ObjectProperty.{ObjectProperty}
use Rattle.es_expressions.specs.declared.composites.FunctionExpression.{FunctionExpression}
use Rattle.es_expressions.specs.declared.composites.ArrowFunctionExpression.{ArrowFunctionExpression}
use Rattle.es_expressions.specs.declared.composites.ClassExpression.{ClassExpression}

abbrev pub plain_array_expression : ArrayExpression → Tree
plain_array_expression e = plain e.id e.span (k-ArrayExpression) (fields (map plain_field e.elements.items))

abbrev pub plain_spread_element : SpreadElement → Tree
plain_spread_element e = plain e.id e.span (k-SpreadElement) (one e.argument then done)

abbrev pub plain_object_expression : ObjectExpression → Tree
plain_object_expression e = plain e.id e.span (k-ObjectExpression) (many (trees e.properties.items) then done)

abbrev pub plain_object_property : ObjectProperty → Tree
plain_object_property e = plain e.id e.span (k-ObjectProperty e.kind e.method e.shorthand e.computed) (one e.key then one e.value then done)

abbrev pub plain_function_expression : FunctionExpression → Tree
plain_function_expression e = plain e.id e.span (k-FunctionExpression e.scope) (maybe e.binding then many (trees e.params.items) then one e.body then done)

abbrev pub plain_arrow_function_expression : ArrowFunctionExpression → Tree
plain_arrow_function_expression e = plain e.id e.span (k-ArrowFunctionExpression e.scope) (many (trees e.params.items) then one e.body then done)

abbrev pub plain_class_expression : ClassExpression → Tree
plain_class_expression e = plain e.id e.span (k-ClassExpression e.scope) (maybe e.binding then maybe e.super_class then many (trees e.body.items) then done)
