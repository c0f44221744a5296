-- The weight of a tree: more than the sum of its parts', and a bound on the nodes and ids that lowering it can still make.
-- Each node counts one; each construct of a row adds twice the number of nodes that the row makes, what it declares and
-- the statement that declares it included: a made node takes one id, and has a weight of its own.
use Rattle.std.specs.Prelude.{ℕ, ◌+◌, suc, List, [], ◌∷◌, if◌then◌else◌, bytes_eq, codes}
use Rattle.es_tree.specs.declared.ast_type.AstType.{AstType}
use Rattle.es_tree.specs.Tree.{Tree, node, Label, Fields, done, ◌then◌, Field, missing, one, many, statements, Trees, empty, ◌before◌, tree_size}
use Rattle.es_tree.specs.Names.{first_text}
use Rattle.es_tree.specs.Words.{Text}
use Rattle.es_tree.specs.declared.ast_type.AstType.TheVariants.{ArrowFunctionExpression, AssignmentExpression, BinaryExpression, CallExpression, ChainExpression, ExportAllDeclaration, LogicalExpression, MemberExpression}
use Rattle.es_runs.specs.LogicalAssignment.{is_logical_assignment_operator}
use Rattle.es_runs.specs.Open.{Pending, Additions, Import}
use Rattle.es_runs.specs.Rules.{is_marked}

-- `t **= r` makes sixteen nodes and two declarators of two with their statements, `t op= r` ten, `??` not counted, and two
-- such declarators
abbrev pub assignment_weight : Text → ℕ
assignment_weight op = if bytes_eq op (codes "**=") then 44 else (if is_logical_assignment_operator op then 60 else 0)

-- `??` makes eleven nodes, a declarator of two, and a statement: fourteen; `l ** r` makes four. A marked member makes eleven
-- and one declarator; a marked call sixteen and two; a chain nine at most, the member `bind` and its receiver among them,
-- and one; `export * as n from "m"` six; an arrow makes a body and a `return`, and with it `var _this = this;` of four
abbrev pub own_weight : AstType → Label → Fields → ℕ
own_weight LogicalExpression l fs = if bytes_eq (first_text l.texts) (codes "??") then 28 else 0
own_weight BinaryExpression l fs = if bytes_eq (first_text l.texts) (codes "**") then 8 else 0
own_weight AssignmentExpression l fs = assignment_weight (first_text l.texts)
own_weight MemberExpression l fs = if is_marked MemberExpression l.flags then 28 else 0
own_weight CallExpression l fs = if is_marked CallExpression l.flags then 44 else 0
own_weight ArrowFunctionExpression l fs = 12
own_weight ChainExpression l fs = 24
own_weight ExportAllDeclaration l fs = 12
own_weight _ l fs = 0

abbrev mutual
  pub weight : Tree → ℕ
  weight (node k l fs) = suc (own_weight k l fs + fields_weight fs)

  pub fields_weight : Fields → ℕ
  fields_weight done = 0
  fields_weight (f then fs) = field_weight f + fields_weight fs

  pub field_weight : Field → ℕ
  field_weight missing = 0
  field_weight (one t) = weight t
  field_weight (many ts) = trees_weight ts
  field_weight (statements ts) = trees_weight ts

  pub trees_weight : Trees → ℕ
  trees_weight empty = 0
  trees_weight (t before ts) = weight t + trees_weight ts

-- a declarator, with the statement that may be written for it alone
abbrev pub declarators_weight : List Tree → ℕ
declarators_weight [] = 0
declarators_weight (d ∷ ds) = weight d + 2 + declarators_weight ds

abbrev pub declarators_size : List Tree → ℕ
declarators_size [] = 0
declarators_size (d ∷ ds) = tree_size d + declarators_size ds

abbrev pub pending_weight : Pending → ℕ
pending_weight p = declarators_weight p.vars + declarators_weight p.lets

abbrev pub pending_size : Pending → ℕ
pending_size p = declarators_size p.vars + declarators_size p.lets

-- for each import a declaration with a specifier, two names and the module's text: five nodes
abbrev pub imports_weight : List Import → ℕ
imports_weight [] = 0
imports_weight (i ∷ is) = 10 + imports_weight is

-- statements keep their weight where they are put
abbrev pub statements_weight : List Tree → ℕ
statements_weight [] = 0
statements_weight (t ∷ ts) = weight t + statements_weight ts

abbrev pub additions_weight : Additions → ℕ
additions_weight a = imports_weight a.imports + statements_weight a.top_level

abbrev pub additions_size : Additions → ℕ
additions_size a = declarators_size a.top_level
