-- Nodes that the lowerings write, at no place of the source.
use Rattle.std.specs.Prelude.{List, [], ◌∷◌, Bool, false, Option, Some, None, map, codes}
use Rattle.es_tree.specs.Words.{Text}
use Rattle.es_tree.specs.declared.ast_type.AstType.TheVariants.{AssignmentExpression, ArrayExpression, ArrowFunctionExpression, BlockStatement, CallExpression, CatchClause, ExportNamedDeclaration, ExportSpecifier, ExpressionStatement, FunctionBody, Identifier, ImportDeclaration, ImportDefaultSpecifier, ImportSpecifier, MemberExpression, ObjectExpression, ReturnStatement, SequenceExpression, StringLiteral, ThisExpression, TryStatement, VariableDeclaration, VariableDeclarator}
use Rattle.es_tree.specs.Tree.{Tree, node, Label, done, ◌then◌, missing, one, many, statements, Trees, empty, ◌before◌, trees, fields}
use Rattle.es_resolution.specs.Declarations.{Bound}

-- a made node's label
abbrev pub made : List (Option Text) → List Bool → Label
made ts fs = record { id = 0; start = 0; stop = 0; texts = ts; flags = fs; marks = [] }

-- the node, with the span of what it takes the place of
abbrev pub placed : Label → Tree → Tree
placed m (node k l fs) = node k (record l { start = m.start; stop = m.stop }) fs

-- a name with its symbol, and a word that refers to nothing
abbrev pub identifier : Bound → Tree
identifier b = node Identifier (record (made (Some b.name ∷ []) []) { marks = b.symbol ∷ [] }) done

abbrev pub word : Text → Tree
word x = identifier (record { name = x; symbol = None })

abbrev pub joined_trees : Trees → Trees → Trees
joined_trees empty us = us
joined_trees (t before ts) us = t before joined_trees ts us

abbrev pub string_node : Text → Tree
string_node t = node StringLiteral (made (Some t ∷ []) []) done

abbrev pub assign_node : Tree → Tree → Tree
assign_node l r = node AssignmentExpression (made (Some (codes "=") ∷ []) []) (one l then one r then done)

abbrev pub member_node : Tree → Text → Tree
member_node o p = node MemberExpression (made [] (false ∷ false ∷ [])) (one o then one (word p) then done)

abbrev pub call_node : Tree → List Tree → Tree
call_node f arguments = node CallExpression (made [] (false ∷ [])) (one f then many (trees arguments) then done)

abbrev pub sequence_node : List Tree → Tree
sequence_node es = node SequenceExpression (made [] []) (many (trees es) then done)

abbrev pub object_node : List Tree → Tree
object_node ps = node ObjectExpression (made [] []) (many (trees ps) then done)

-- an array literal without holes
abbrev pub array_node : List Tree → Tree
array_node es = node ArrayExpression (made [] []) (fields (map one es))

abbrev pub this_expression : Tree
this_expression = node ThisExpression (made [] []) done

abbrev pub arrow_node : Tree → Tree
arrow_node e = node ArrowFunctionExpression (made [] []) (many empty then one e then done)

abbrev pub body_node : Trees → Tree
body_node ts = node FunctionBody (made [] []) (many empty then statements ts then done)

abbrev pub block_node : Trees → Tree
block_node ts = node BlockStatement (made [] []) (statements ts then done)

abbrev pub statement_node : Tree → Tree
statement_node e = node ExpressionStatement (made [] []) (one e then done)

abbrev pub return_node : Tree → Tree
return_node e = node ReturnStatement (made [] []) (one e then done)

-- `p = e` as a declarator
abbrev pub declarator_with : Tree → Tree → Tree
declarator_with p e = node VariableDeclarator (made [] []) (one p then one e then done)

-- a declarator of the name alone
abbrev pub declarator : Bound → Tree
declarator b = node VariableDeclarator (made [] []) (one (identifier b) then missing then done)

abbrev pub declaration_node : Text → List Tree → Tree
declaration_node kind ds = node VariableDeclaration (made (Some kind ∷ []) []) (many (trees ds) then done)

-- `var x = this;`
abbrev pub this_statement : Bound → Tree
this_statement x = declaration_node (codes "var") (declarator_with (identifier x) this_expression ∷ [])

abbrev pub try_node : Tree → Tree → Tree → Tree
try_node block handler finalizer = node TryStatement (made [] []) (one block then one handler then one finalizer then done)

abbrev pub catch_node : Tree → Tree → Tree
catch_node param body = node CatchClause (made [] []) (one param then one body then done)

abbrev pub specifier_node : Tree → Tree → Tree
specifier_node local exported = node ExportSpecifier (made [] []) (one local then one exported then done)

-- `export { .. }`
abbrev pub export_node : List Tree → Tree
export_node specifiers = node ExportNamedDeclaration (made [] []) (missing then many (trees specifiers) then missing then many empty then done)

-- `import x from "m"`, `import { n as x } from "m"`
abbrev pub import_specifier : Option Text → Bound → Tree
import_specifier None x = node ImportDefaultSpecifier (made [] []) (one (identifier x) then done)
import_specifier (Some n) x = node ImportSpecifier (made [] []) (one (word n) then one (identifier x) then done)

abbrev pub import_node : Tree → Tree → Trees → Tree
import_node specifier source attributes = node ImportDeclaration (made [] []) (many (specifier before empty) then one source then many attributes then done)
