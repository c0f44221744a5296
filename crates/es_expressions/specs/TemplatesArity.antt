-- The arity of each kind of node.
use Rattle.std.specs.Prelude.{[], ◌∷◌}
use Rattle.es_tree.specs.Tree.{Tree}
use Rattle.es_tree.specs.declared.ast_type.AstType.TheVariants.{
  TemplateLiteral,
  TemplateElement,
}
use Rattle.es_tree.specs.Arity.{Opens, list}

abbrev pub IsTemplateLiteral : Tree → Type 0
IsTemplateLiteral = Opens TemplateLiteral (list ∷ list ∷ [])

abbrev pub IsTemplateElement : Tree → Type 0
IsTemplateElement = Opens TemplateElement ([])
