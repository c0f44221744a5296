-- One pair of parentheses (ECMA-262, 13.2.9).
use Rattle.std.specs.Prelude.{Bool, true, false}
use Rattle.es_tree.specs.Tree.{Tree, node, ◌then◌, one}
use Rattle.es_tree.specs.declared.ast_type.AstType.TheVariants.{ParenthesizedExpression}

-- whether a node is an expression in parentheses
abbrev pub has_inner : Tree → Bool
has_inner (node ParenthesizedExpression l (one t then fs)) = true
has_inner _ = false

-- the first child of a node, or itself where it has none
abbrev pub first_child : Tree → Tree
first_child (node k l (one t then fs)) = t
first_child t = t
