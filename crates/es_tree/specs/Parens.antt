-- Expressions in parentheses.
use Rattle.es_tree.specs.Tree.{Tree, node, ◌then◌, one}
use Rattle.es_tree.specs.declared.ast_type.AstType.TheVariants.{ParenthesizedExpression}

-- the expression below all parentheses around it (ECMA-262, 13.2.9)
abbrev pub without_parens : Tree → Tree
without_parens (node ParenthesizedExpression l (one t then fs)) = without_parens t
without_parens t = t
