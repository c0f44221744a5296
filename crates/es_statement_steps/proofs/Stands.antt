-- Where declarations, names and labels stand in a program of the class that has form and keeps the static rules: a test of each node and of
-- the kinds of what stands in its fields.
use Rattle.std.proofs.Common.{◌≡◌, ℕ, zero, suc, refl}
use Rattle.std.proofs.lemmas.Bool.{and_parts}
use Rattle.std.specs.Prelude.{Bool, true, false, not, ◌&&◌, ◌||◌, codes}
use Rattle.es_tree.specs.Names.{first_text}
use Rattle.es_tree.specs.Tree.{Tree, node, Label, Fields, done, ◌then◌, missing, one, many, statements, kind_of}
use Rattle.es_tree.specs.Walks.{all_nodes, all_in_fields}
use Rattle.es_tree.specs.Words.{Text}
use Rattle.es_tree.specs.declared.ast_type.AstType.{AstType}
use Rattle.es_tree.specs.declared.ast_type.AstType.TheVariants.{Program, ExpressionStatement, BlockStatement, StaticBlock, EmptyStatement, DebuggerStatement, VariableDeclaration, VariableDeclarator, FunctionDeclaration, FunctionBody, ClassDeclaration, ReturnStatement, ThrowStatement, IfStatement, ForStatement, ForInStatement, ForOfStatement, WhileStatement, DoWhileStatement, BreakStatement, ContinueStatement, LabeledStatement, SwitchStatement, SwitchCase, TryStatement, CatchClause, ImportDeclaration, ImportSpecifier, ImportDefaultSpecifier, ImportNamespaceSpecifier, ExportNamedDeclaration, ExportSpecifier, ExportDefaultDeclaration, ExportAllDeclaration, Identifier, ObjectProperty, MemberExpression, ParenthesizedExpression, ObjectPattern, PatternProperty, ArrayPattern, AssignmentPattern, RestElement, ObjectTarget, TargetProperty, ArrayTarget, TargetWithDefault, TargetRest, CallExpression, ChainExpression, SpreadElement, TemplateLiteral, TaggedTemplateExpression, ObjectExpression, BinaryExpression, AssignmentExpression, UpdateExpression, UnaryExpression, LogicalExpression, ConditionalExpression, SequenceExpression, NewExpression, TemplateElement, Directive, ImportAttribute, ThisExpression, NullLiteral, BooleanLiteral, NumericLiteral, BigIntLiteral, StringLiteral}
use Rattle.es_statement_runs.specs.Names.{is_word}
use Rattle.es_statement_runs.specs.Programs.{is_statement_kind}
use Rattle.es_statement_steps.proofs.Below.{fields_pass}

-- KINDS

abbrev pub is_program : AstType → Bool
is_program Program = true
is_program _ = false

-- what stands in expressions and patterns: no statement and no part of one but declarators and what an export names
abbrev pub is_inner : AstType → Bool
is_inner Program = false
is_inner ExpressionStatement = false
is_inner BlockStatement = false
is_inner StaticBlock = false
is_inner EmptyStatement = false
is_inner DebuggerStatement = false
is_inner VariableDeclaration = false
is_inner FunctionDeclaration = false
is_inner FunctionBody = false
is_inner ClassDeclaration = false
is_inner ReturnStatement = false
is_inner ThrowStatement = false
is_inner IfStatement = false
is_inner ForStatement = false
is_inner ForInStatement = false
is_inner ForOfStatement = false
is_inner WhileStatement = false
is_inner DoWhileStatement = false
is_inner BreakStatement = false
is_inner ContinueStatement = false
is_inner LabeledStatement = false
is_inner SwitchStatement = false
is_inner SwitchCase = false
is_inner TryStatement = false
is_inner CatchClause = false
is_inner ImportDeclaration = false
is_inner ImportSpecifier = false
is_inner ImportDefaultSpecifier = false
is_inner ImportNamespaceSpecifier = false
is_inner ExportNamedDeclaration = false
is_inner ExportDefaultDeclaration = false
is_inner ExportAllDeclaration = false
is_inner _ = true

-- binding patterns (8.2.1), and where they stand
abbrev pub is_pattern : AstType → Bool
is_pattern Identifier = true
is_pattern ObjectPattern = true
is_pattern PatternProperty = true
is_pattern ArrayPattern = true
is_pattern AssignmentPattern = true
is_pattern RestElement = true
is_pattern _ = false

abbrev pub binds_at : AstType → ℕ → Bool
binds_at VariableDeclarator zero = true
binds_at CatchClause zero = true
binds_at ObjectPattern i = true
binds_at PatternProperty (suc zero) = true
binds_at ArrayPattern i = true
binds_at AssignmentPattern zero = true
binds_at RestElement i = true
binds_at k i = false

-- kinds in which names stand for what the node itself does
abbrev pub hands_on : AstType → Bool
hands_on VariableDeclarator = true
hands_on ExportNamedDeclaration = true
hands_on ExportDefaultDeclaration = true
hands_on ObjectPattern = true
hands_on PatternProperty = true
hands_on ArrayPattern = true
hands_on AssignmentPattern = true
hands_on RestElement = true
hands_on ObjectTarget = true
hands_on TargetProperty = true
hands_on ArrayTarget = true
hands_on TargetWithDefault = true
hands_on TargetRest = true
hands_on k = false

-- where a label, a key, or a name in another module may stand
abbrev pub tells : AstType → ℕ → Bool
tells MemberExpression (suc zero) = true
tells ObjectProperty zero = true
tells PatternProperty zero = true
tells TargetProperty zero = true
tells BreakStatement zero = true
tells ContinueStatement zero = true
tells LabeledStatement zero = true
tells ImportSpecifier zero = true
tells ExportSpecifier i = true
tells ExportAllDeclaration zero = true
tells ExportNamedDeclaration (suc zero) = true
tells ParenthesizedExpression zero = true
tells k i = false

-- kinds whose role is that of names that are bound or written in them, and where these stand
abbrev pub takes_target : AstType → Bool
takes_target VariableDeclarator = true
takes_target ObjectPattern = true
takes_target PatternProperty = true
takes_target ArrayPattern = true
takes_target AssignmentPattern = true
takes_target RestElement = true
takes_target ObjectTarget = true
takes_target TargetProperty = true
takes_target ArrayTarget = true
takes_target TargetWithDefault = true
takes_target TargetRest = true
takes_target k = false

abbrev pub aims : AstType → ℕ → Bool
aims VariableDeclaration zero = true
aims VariableDeclarator zero = true
aims CatchClause zero = true
aims ForInStatement zero = true
aims ForOfStatement zero = true
aims AssignmentExpression zero = true
aims UpdateExpression zero = true
aims ObjectPattern zero = true
aims PatternProperty (suc zero) = true
aims ArrayPattern i = true
aims AssignmentPattern zero = true
aims RestElement zero = true
aims ObjectTarget zero = true
aims TargetProperty (suc zero) = true
aims ArrayTarget i = true
aims TargetWithDefault zero = true
aims TargetRest zero = true
aims k i = false

-- a name, in parentheses or not
abbrev pub is_name_alone : AstType → Bool
is_name_alone Identifier = true
is_name_alone ParenthesizedExpression = true
is_name_alone k = false

abbrev pub is_declarator : AstType → Bool
is_declarator VariableDeclarator = true
is_declarator k = false

abbrev pub is_case : AstType → Bool
is_case SwitchCase = true
is_case k = false

abbrev pub is_import_item : AstType → Bool
is_import_item ImportSpecifier = true
is_import_item ImportDefaultSpecifier = true
is_import_item ImportNamespaceSpecifier = true
is_import_item k = false

abbrev pub is_name : AstType → Bool
is_name Identifier = true
is_name k = false

abbrev pub is_link_kind : AstType → Bool
is_link_kind MemberExpression = true
is_link_kind CallExpression = true
is_link_kind k = false

-- no name, nor what passes on what its place takes, and no item of a declaration or an export
abbrev pub is_closed : AstType → Bool
is_closed Identifier = false
is_closed ParenthesizedExpression = false
is_closed ChainExpression = false
is_closed VariableDeclarator = false
is_closed ExportSpecifier = false
is_closed k = true

-- what stands in declarations and exports alone
abbrev pub is_item : AstType → Bool
is_item VariableDeclarator = true
is_item ExportSpecifier = true
is_item k = false

abbrev pub is_spread : AstType → Bool
is_spread SpreadElement = true
is_spread k = false

-- what an expression takes: no part of a declaration, an export, a program, a template, an object or a pattern, and no spread
abbrev pub is_operand : AstType → Bool
is_operand SpreadElement = false
is_operand VariableDeclarator = false
is_operand ExportSpecifier = false
is_operand Directive = false
is_operand TemplateElement = false
is_operand ObjectProperty = false
is_operand ObjectPattern = false
is_operand PatternProperty = false
is_operand ArrayPattern = false
is_operand AssignmentPattern = false
is_operand RestElement = false
is_operand ObjectTarget = false
is_operand TargetProperty = false
is_operand ArrayTarget = false
is_operand TargetWithDefault = false
is_operand TargetRest = false
is_operand ImportAttribute = false
is_operand k = true

-- what an assignment takes besides
abbrev pub is_assigned : AstType → Bool
is_assigned ObjectTarget = true
is_assigned ArrayTarget = true
is_assigned k = is_operand k

-- the kinds of the parts of a program, a declaration, a `switch`, an import and an export; of a chain, a template, an object and its patterns; and of
-- operators. Items of declarations and exports stand there alone.
abbrev pub parts_fit : AstType → ℕ → AstType → Bool
parts_fit Program zero j = is_inner j
parts_fit VariableDeclaration zero j = is_declarator j
parts_fit VariableDeclaration (suc i) j = false
parts_fit SwitchStatement (suc zero) j = is_case j
parts_fit ImportDeclaration zero j = is_import_item j
parts_fit ImportDeclaration (suc i) j = is_inner j
parts_fit ImportSpecifier zero j = is_inner j
parts_fit ImportSpecifier (suc zero) j = is_name j
parts_fit ImportDefaultSpecifier zero j = is_name j
parts_fit ImportNamespaceSpecifier zero j = is_name j
parts_fit ExportNamedDeclaration (suc i) j = is_inner j
parts_fit ChainExpression i j = is_link_kind j
parts_fit TemplateLiteral zero j = is_closed j
parts_fit TaggedTemplateExpression (suc i) j = is_closed j
parts_fit ObjectExpression i j = is_closed j
parts_fit ObjectPattern i j = is_closed j
parts_fit ObjectTarget i j = is_closed j
parts_fit BinaryExpression i j = is_operand j
parts_fit AssignmentExpression zero j = is_assigned j
parts_fit AssignmentExpression (suc i) j = is_operand j
parts_fit UpdateExpression (suc i) j = false
parts_fit ParenthesizedExpression (suc i) j = false
parts_fit PatternProperty (suc (suc i)) j = false
parts_fit TargetProperty (suc (suc i)) j = false
parts_fit RestElement (suc i) j = false
parts_fit TargetRest (suc i) j = false
parts_fit Identifier i j = is_operand j
parts_fit ThisExpression i j = is_operand j
parts_fit NullLiteral i j = is_operand j
parts_fit BooleanLiteral i j = is_operand j
parts_fit NumericLiteral i j = is_operand j
parts_fit BigIntLiteral i j = is_operand j
parts_fit StringLiteral i j = is_operand j
parts_fit UnaryExpression i j = is_operand j
parts_fit UpdateExpression zero j = is_operand j
parts_fit LogicalExpression i j = is_operand j
parts_fit ConditionalExpression i j = is_operand j
parts_fit SequenceExpression i j = is_operand j
parts_fit MemberExpression i j = is_operand j
parts_fit ParenthesizedExpression zero j = is_operand j
parts_fit CallExpression i j = is_operand j || is_spread j
parts_fit NewExpression i j = is_operand j || is_spread j
parts_fit k i j = not (is_item j)

-- what may stand in a field, by the table of fields
abbrev pub fits : AstType → ℕ → AstType → Bool
fits k i j = not (is_program j) && ((not (is_inner k) || is_inner j) && ((not (binds_at k i) || is_pattern j) && ((not (hands_on j) || not (tells k i)) && ((not (takes_target j) || aims k i) && parts_fit k i j))))

-- what declares nothing in the scope around it, but by `var`
abbrev pub is_plain : AstType → Text → Bool
is_plain VariableDeclaration word = is_word (codes "var") word
is_plain SwitchCase word = false
is_plain ImportDeclaration word = false
is_plain ImportSpecifier word = false
is_plain ImportDefaultSpecifier word = false
is_plain ImportNamespaceSpecifier word = false
is_plain ExportNamedDeclaration word = false
is_plain Program word = false
is_plain k word = true

-- where the others may stand
abbrev pub is_top_kind : AstType → Bool
is_top_kind VariableDeclaration = true
is_top_kind ImportDeclaration = true
is_top_kind ExportNamedDeclaration = true
is_top_kind k = false

abbrev pub is_declaration : AstType → Bool
is_declaration VariableDeclaration = true
is_declaration k = false

abbrev pub takes : AstType → ℕ → AstType → Bool
takes Program (suc zero) j = is_top_kind j
takes BlockStatement zero j = is_declaration j
takes ForStatement zero j = is_declaration j
takes ForInStatement zero j = is_declaration j
takes ForOfStatement zero j = is_declaration j
takes SwitchStatement (suc zero) j = is_case j
takes SwitchCase (suc zero) j = is_declaration j
takes ImportDeclaration zero j = is_import_item j
takes ExportNamedDeclaration zero j = is_declaration j
takes k i j = false

abbrev pub child_stands : AstType → ℕ → Tree → Bool
child_stands k i (node j l fs) = fits k i j && (is_plain j (first_text l.texts) || takes k i j)

-- the fields of what declares, and of expressions that write, call and pass on what their place takes
abbrev pub shaped : AstType → Fields → Bool
shaped Program (many ds then (statements ts then done)) = true
shaped Program fs = false
shaped BlockStatement (statements ts then fs) = true
shaped BlockStatement fs = false
shaped VariableDeclaration (many ds then fs) = true
shaped VariableDeclaration fs = false
shaped VariableDeclarator (one t then fs) = true
shaped VariableDeclarator fs = false
shaped ForStatement (missing then fs) = true
shaped ForStatement (one t then fs) = true
shaped ForStatement fs = false
shaped ForInStatement (one t then fs) = true
shaped ForInStatement fs = false
shaped ForOfStatement (one t then fs) = true
shaped ForOfStatement fs = false
shaped SwitchStatement (one t then (many cs then fs)) = true
shaped SwitchStatement fs = false
shaped SwitchCase (f then (statements ts then fs)) = true
shaped SwitchCase fs = false
shaped CatchClause (missing then fs) = true
shaped CatchClause (one t then fs) = true
shaped CatchClause fs = false
shaped ImportDeclaration (many is then fs) = true
shaped ImportDeclaration fs = false
shaped ImportSpecifier (one x then (one y then done)) = true
shaped ImportSpecifier fs = false
shaped ImportDefaultSpecifier (one y then done) = true
shaped ImportDefaultSpecifier fs = false
shaped ImportNamespaceSpecifier (one y then done) = true
shaped ImportNamespaceSpecifier fs = false
shaped ExportNamedDeclaration (missing then fs) = true
shaped ExportNamedDeclaration (one t then fs) = true
shaped ExportNamedDeclaration fs = false
shaped UpdateExpression (one t then done) = true
shaped UpdateExpression fs = false
shaped ParenthesizedExpression (one t then done) = true
shaped ParenthesizedExpression fs = false
shaped ChainExpression (one t then done) = true
shaped ChainExpression fs = false
shaped AssignmentExpression (one t then (one r then done)) = true
shaped AssignmentExpression fs = false
shaped CallExpression (one f then (many ts then done)) = true
shaped CallExpression fs = false
shaped TaggedTemplateExpression (one t then fs) = true
shaped TaggedTemplateExpression fs = false
shaped k fs = true

abbrev pub stands : AstType → Label → Fields → Bool
stands k l fs = is_statement_kind k && (shaped k fs && fields_pass (child_stands k) fs)

-- THE PARTS OF THE TESTS

-- all nodes of a tree stand so
pub record Standing (k : AstType) (l : Label) (fs : Fields) : Type 0 where
  pub class : is_statement_kind k ≡ true
  pub shape : shaped k fs ≡ true
  pub children : fields_pass (child_stands k) fs ≡ true
  pub below : all_in_fields stands fs ≡ true

pub standing : (k : AstType) (l : Label) (fs : Fields) → all_nodes stands (node k l fs) ≡ true → Standing k l fs
standing k l fs h =
    let d = and_parts (stands k l fs) (all_in_fields stands fs) h in
    let c = and_parts (is_statement_kind k) (shaped k fs && fields_pass (child_stands k) fs) d.0 in
    let e = and_parts (shaped k fs) (fields_pass (child_stands k) fs) c.1 in
    record { class = c.0; shape = e.0; children = e.1; below = d.1 }

-- the word of a declaration
abbrev pub word_of : Tree → Text
word_of (node k l fs) = first_text l.texts

pub record ChildStands (k : AstType) (i : ℕ) (j : AstType) (word : Text) : Type 0 where
  pub program : is_program j ≡ false
  pub inner : is_inner k ≡ true → is_inner j ≡ true
  pub pattern : binds_at k i ≡ true → is_pattern j ≡ true
  pub role : tells k i ≡ true → hands_on j ≡ false
  pub aim : takes_target j ≡ true → aims k i ≡ true
  pub part : parts_fit k i j ≡ true
  pub plain : takes k i j ≡ false → is_plain j word ≡ true

not_true : (a : Bool) → not a ≡ true → a ≡ false
not_true true h = absurd (cc h)
not_true false h = refl

pub implied : (a b : Bool) → (not a || b) ≡ true → a ≡ true → b ≡ true
implied true b h e = h
implied false b h e = absurd (cc e)

unless : (a b : Bool) → (not a || not b) ≡ true → b ≡ true → a ≡ false
unless true b h e = absurd (let no : not b ≡ true = h in cc (not_true b no))
unless false b h e = refl

or_else : (a b : Bool) → (a || b) ≡ true → b ≡ false → a ≡ true
or_else true b h e = refl
or_else false b h e = absurd (cc (h, e))

pub child_parts : (k : AstType) (i : ℕ) (t : Tree) → child_stands k i t ≡ true → ChildStands k i (kind_of t) (word_of t)
child_parts k i (node j l fs) h =
    let word = first_text l.texts in
    let d = and_parts (fits k i j) (is_plain j word || takes k i j) h in
    let p = and_parts (not (is_program j)) ((not (is_inner k) || is_inner j) && ((not (binds_at k i) || is_pattern j) && ((not (hands_on j) || not (tells k i)) && ((not (takes_target j) || aims k i) && parts_fit k i j)))) d.0 in
    let q = and_parts (not (is_inner k) || is_inner j) ((not (binds_at k i) || is_pattern j) && ((not (hands_on j) || not (tells k i)) && ((not (takes_target j) || aims k i) && parts_fit k i j))) p.1 in
    let r = and_parts (not (binds_at k i) || is_pattern j) ((not (hands_on j) || not (tells k i)) && ((not (takes_target j) || aims k i) && parts_fit k i j)) q.1 in
    let s = and_parts (not (hands_on j) || not (tells k i)) ((not (takes_target j) || aims k i) && parts_fit k i j) r.1 in
    let u = and_parts (not (takes_target j) || aims k i) (parts_fit k i j) s.1 in
    record {
      program = not_true (is_program j) p.0;
      inner = implied (is_inner k) (is_inner j) q.0;
      pattern = implied (binds_at k i) (is_pattern j) r.0;
      role = unless (hands_on j) (tells k i) s.0;
      aim = implied (takes_target j) (aims k i) u.0;
      part = u.1;
      plain = or_else (is_plain j word) (takes k i j) d.1;
    }
