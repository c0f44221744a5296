-- What each kind of node is seen as.
use Rattle.es_tree.specs.Tree.{Tree, done, ◌then◌, one, many, trees}
use Rattle.es_tree.specs.Views.{plain}
use Rattle.es_tree.specs.declared.kind.Kind.TheVariants.{
  MemberExpression as k-MemberExpression,
  CallExpression as k-CallExpression,
  NewExpression as k-NewExpression,
  ChainExpression as k-ChainExpression,
  MetaProperty as k-MetaProperty,
  TaggedTemplateExpression as k-TaggedTemplateExpression,
}
use Rattle.es_expressions.specs.declared.members.MemberExpression.{MemberExpression}
use Rattle.es_expressions.specs.declared.members.CallExpression.{CallExpression}
use Rattle.es_expressions.specs.declared.members.NewExpression.{NewExpression}
use Rattle.es_expressions.specs.declared.members.ChainExpression.{ChainExpression}
use Rattle.es_expressions.specs.declared.members.MetaProperty.{MetaProperty}
use Rattle.es_expressions.specs.declared.members.TaggedTemplateExpression.{TaggedTemplateExpression}

abbrev pub plain_member_expression : MemberExpression → Tree
plain_member_expression e = plain e.id e.span (k-MemberExpression e.computed e.optional) (one e.object then one e.property then done)

abbrev pub plain_call_expression : CallExpression → Tree
plain_call_expression e = plain e.id e.span (k-CallExpression e.optional) (one e.callee then many (trees e.arguments.items) then done)

abbrev pub plain_new_expression : NewExpression → Tree
plain_new_expression e = plain e.id e.span (k-NewExpression) (one e.callee then many (trees e.arguments.items) then done)

abbrev pub plain_chain_expression : ChainExpression → Tree
plain_chain_expression e = plain e.id e.span (k-ChainExpression) (one e.expression then done)

abbrev pub plain_meta_property : MetaProperty → Tree
plain_meta_property e = plain e.id e.span (k-MetaProperty e.meta e.property) (done)

abbrev pub plain_tagged_template_expression : TaggedTemplateExpression → Tree
plain_tagged_template_expression e = plain e.id e.span (k-TaggedTemplateExpression) (one e.tag then one e.quasi then done)
