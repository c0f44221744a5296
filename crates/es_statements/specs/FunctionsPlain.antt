-- What each kind of node is seen as.
use Rattle.es_tree.specs.Tree.{Tree, done, ◌then◌, one, many, statements, trees}
use Rattle.es_tree.specs.Arity.{maybe}
use Rattle.es_tree.specs.Views.{plain}
use Rattle.es_tree.specs.declared.kind.Kind.TheVariants.{
  FunctionDeclaration as k-FunctionDeclaration,
  FunctionBody as k-FunctionBody,
  ClassDeclaration as k-ClassDeclaration,
  MethodDefinition as k-MethodDefinition,
  PropertyDefinition as k-PropertyDefinition,
  StaticBlock as k-StaticBlock,
}
use Rattle.es_statements.specs.declared.functions.FunctionDeclaration.{FunctionDeclaration}
use Rattle.es_statements.specs.declared.functions.FunctionBody.{FunctionBody}
use Rattle.es_statements.specs.declared.functions.ClassDeclaration.{ClassDeclaration}
use Rattle.es_statements.specs.declared.functions.MethodDefinition.{MethodDefinition}
use Rattle.es_statements.specs.declared.functions.PropertyDefinition.{PropertyDefinition}
use Rattle.es_statements.specs.declared.functions.StaticBlock.{StaticBlock}

abbrev pub plain_function_declaration : FunctionDeclaration → Tree
plain_function_declaration e = plain e.id e.span (k-FunctionDeclaration e.scope) (maybe e.binding then many (trees e.params.items) then one e.body then done)

abbrev pub plain_function_body : FunctionBody → Tree
plain_function_body e = plain e.id e.span (k-FunctionBody e.scope) (many (trees e.directives.items) then statements (trees e.body.items) then done)

abbrev pub plain_class_declaration : ClassDeclaration → Tree
plain_class_declaration e = plain e.id e.span (k-ClassDeclaration e.scope) (maybe e.binding then maybe e.super_class then many (trees e.body.items) then done)

abbrev pub plain_method_definition : MethodDefinition → Tree
plain_method_definition e = plain e.id e.span (k-MethodDefinition e.kind e.is_static e.computed) (one e.key then one e.value then done)

abbrev pub plain_property_definition : PropertyDefinition → Tree
plain_property_definition e = plain e.id e.span (k-PropertyDefinition e.is_static e.computed) (one e.key then maybe e.value then done)

abbrev pub plain_static_block : StaticBlock → Tree
plain_static_block e = plain e.id e.span (k-StaticBlock e.scope) (statements (trees e.body.items) then done)
