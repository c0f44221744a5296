-- Expressions over whatever operands: nodes of the core over operands of any kind, which mean something and touch no bad name.
use Rattle.std.specs.Prelude.{Bool, true, false, ◌&&◌, [], if◌then◌else◌}
use Rattle.es_tree.specs.Words.{Text}
use Rattle.es_tree.specs.Tree.{Tree, node, Fields, done, ◌then◌, Field, missing, one, many, statements, Trees, empty, ◌before◌, kind_of}
use Rattle.es_tree.specs.declared.ast_type.AstType.{AstType}
use Rattle.es_tree.specs.declared.ast_type.AstType.TheVariants.{Identifier, ThisExpression, NullLiteral, BooleanLiteral, NumericLiteral, BigIntLiteral, StringLiteral, UnaryExpression, UpdateExpression, BinaryExpression, LogicalExpression, ConditionalExpression, AssignmentExpression, SequenceExpression, MemberExpression, CallExpression, NewExpression, ChainExpression, ParenthesizedExpression, RegExpLiteral, TemplateLiteral, TaggedTemplateExpression, ArrayExpression, SpreadElement, ObjectExpression, MetaProperty}
use Rattle.es_runs.specs.Alike.{Level}
use Rattle.es_runs.specs.Core.{is_other}
use Rattle.es_statement_runs.specs.Helpers.Supply.{no_helpers}
use Rattle.es_statement_runs.specs.Meant.{as_role, is_meant_at}
use Rattle.es_statement_runs.specs.Meant.Role.{a_value}
use Rattle.es_statement_runs.specs.Places.{avoids, value_taken}

-- the expressions of the core, with a callee and arguments, and with both sides of an assignment
abbrev pub is_expression_node : AstType → Fields → Bool
is_expression_node Identifier fs = true
is_expression_node ThisExpression fs = true
is_expression_node NullLiteral fs = true
is_expression_node BooleanLiteral fs = true
is_expression_node NumericLiteral fs = true
is_expression_node BigIntLiteral fs = true
is_expression_node StringLiteral fs = true
is_expression_node UnaryExpression fs = true
is_expression_node UpdateExpression fs = true
is_expression_node BinaryExpression fs = true
is_expression_node LogicalExpression fs = true
is_expression_node ConditionalExpression fs = true
is_expression_node AssignmentExpression (one t then (one r then done)) = true
is_expression_node SequenceExpression fs = true
is_expression_node MemberExpression fs = true
is_expression_node CallExpression (one f then (many ts then done)) = true
is_expression_node NewExpression fs = true
is_expression_node ChainExpression fs = true
is_expression_node ParenthesizedExpression fs = true
is_expression_node k fs = false

-- the kinds of operands beside them; an assignment is one where its target is a pattern
abbrev pub is_further_kind : AstType → Bool
is_further_kind RegExpLiteral = true
is_further_kind TemplateLiteral = true
is_further_kind TaggedTemplateExpression = true
is_further_kind ArrayExpression = true
is_further_kind SpreadElement = true
is_further_kind ObjectExpression = true
is_further_kind MetaProperty = true
is_further_kind AssignmentExpression = true
is_further_kind _ = false

-- such an operand, that means something and in which no bad name stands
abbrev pub is_settled : (Level → Text → Bool) → Tree → Bool
is_settled bad t = is_further_kind (kind_of t) && (avoids bad value_taken t && is_meant_at no_helpers (as_role a_value false) [] [] t)

-- whether a tree is of nodes of the core over operands that pass
abbrev mutual
  pub stands_over : (Tree → Bool) → Tree → Bool
  stands_over good (node k l fs) = if is_other k fs then good (node k l fs) else (is_expression_node k fs && fields_over good fs)

  pub fields_over : (Tree → Bool) → Fields → Bool
  fields_over good done = true
  fields_over good (f then fs) = field_over good f && fields_over good fs

  pub field_over : (Tree → Bool) → Field → Bool
  field_over good missing = true
  field_over good (one t) = stands_over good t
  field_over good (many ts) = trees_over good ts
  field_over good (statements ts) = trees_over good ts

  pub trees_over : (Tree → Bool) → Trees → Bool
  trees_over good empty = true
  trees_over good (t before ts) = stands_over good t && trees_over good ts
