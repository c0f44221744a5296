-- The core grammar: expression statements and declarations of plain names by `var`, `let` and `const`, over
-- expressions without functions, classes, patterns, templates, spreads, private names, `super` and the literals
-- of objects, arrays and regular expressions. The table of fields says where each kind may stand.
use Rattle.std.specs.Prelude.{◌≡◌, Bool, true, false, not, bytes_eq, codes}
use Rattle.es_tree.specs.HasForm.{has_form}
use Rattle.es_tree.specs.declared.table.Sort.TheVariants.{Program as s-Program}
use Rattle.es_tree.specs.Names.{first_text}
use Rattle.es_tree.specs.Tree.{Tree, Label, Fields}
use Rattle.es_tree.specs.Walks.{all_nodes}
use Rattle.es_tree.specs.declared.ast_type.AstType.{AstType}
use Rattle.es_tree.specs.declared.ast_type.AstType.TheVariants.{
  Program,
  Directive,
  ExpressionStatement,
  VariableDeclaration,
  VariableDeclarator,
  Identifier,
  ThisExpression,
  NullLiteral,
  BooleanLiteral,
  NumericLiteral,
  BigIntLiteral,
  StringLiteral,
  UnaryExpression,
  UpdateExpression,
  BinaryExpression,
  LogicalExpression,
  ConditionalExpression,
  AssignmentExpression,
  SequenceExpression,
  MemberExpression,
  CallExpression,
  NewExpression,
  ChainExpression,
  ParenthesizedExpression,
}

abbrev pub is_core_kind : AstType → Bool
is_core_kind Program = true
is_core_kind Directive = true
is_core_kind ExpressionStatement = true
is_core_kind VariableDeclaration = true
is_core_kind VariableDeclarator = true
is_core_kind Identifier = true
is_core_kind ThisExpression = true
is_core_kind NullLiteral = true
is_core_kind BooleanLiteral = true
is_core_kind NumericLiteral = true
is_core_kind BigIntLiteral = true
is_core_kind StringLiteral = true
is_core_kind UnaryExpression = true
is_core_kind UpdateExpression = true
is_core_kind BinaryExpression = true
is_core_kind LogicalExpression = true
is_core_kind ConditionalExpression = true
is_core_kind AssignmentExpression = true
is_core_kind SequenceExpression = true
is_core_kind MemberExpression = true
is_core_kind CallExpression = true
is_core_kind NewExpression = true
is_core_kind ChainExpression = true
is_core_kind ParenthesizedExpression = true
is_core_kind _ = false

abbrev pub is_core_node : AstType → Label → Fields → Bool
is_core_node VariableDeclaration l fs = not (bytes_eq (first_text l.texts) (codes "using"))
is_core_node k l fs = is_core_kind k

abbrev pub is_not_core : AstType → Label → Fields → Bool
is_not_core k l fs = not (is_core_node k l fs)

-- of the nodes of a program that has its form, whether all are core
abbrev pub is_core : Tree → Bool
is_core t = all_nodes is_core_node t

-- a core program: a program of the tree form whose nodes are core
pub record IsCoreProgram (p : Tree) : Type 0 where
  pub form : has_form s-Program p ≡ true
  pub core : is_core p ≡ true
