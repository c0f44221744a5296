-- What the ancestors of a context say of the value of an expression, by their kinds and fields alone.
use Rattle.std.specs.Prelude.{◌==◌, ◌&&◌, Bool, List}
use Rattle.es_tree.specs.HasForm.{same_type}
use Rattle.es_tree.specs.declared.ast_type.AstType.TheVariants.{ExpressionStatement, ParenthesizedExpression}
use Rattle.es_scope.specs.declared.ancestor.Ancestor.{Ancestor}
use Rattle.lower_temporaries.specs.Outward.{reaches}

-- it leads to the expression that it is as a statement
abbrev pub is_statement : Ancestor → Bool
is_statement a = same_type a.kind ExpressionStatement && a.field == 0

-- it leads to the expression in its parentheses
abbrev pub is_parenthesis : Ancestor → Bool
is_parenthesis a = same_type a.kind ParenthesizedExpression && a.field == 0

-- what stands here is a statement, maybe in parentheses
abbrev pub is_unused : List Ancestor → Bool
is_unused xs = reaches is_statement is_parenthesis xs
