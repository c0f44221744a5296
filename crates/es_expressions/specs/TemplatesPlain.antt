-- What each kind of node is seen as.
use Rattle.es_tree.specs.Tree.{Tree, done, ◌then◌, many, trees}
use Rattle.es_tree.specs.Views.{plain}
use Rattle.es_tree.specs.declared.kind.Kind.TheVariants.{
  TemplateLiteral as k-TemplateLiteral,
  TemplateElement as k-TemplateElement,
}
use Rattle.es_expressions.specs.declared.templates.TemplateLiteral.{TemplateLiteral}
use Rattle.es_expressions.specs.declared.templates.TemplateElement.{TemplateElement}

abbrev pub plain_template_literal : TemplateLiteral → Tree
plain_template_literal e = plain e.id e.span (k-TemplateLiteral) (many (trees e.quasis.items) then many (trees e.expressions.items) then done)

abbrev pub plain_template_element : TemplateElement → Tree
plain_template_element e = plain e.id e.span (k-TemplateElement e.raw e.cooked) (done)
