-- What is made, as the program is read: with the id 0 and at no place, and with no marks of scope tables.
use Rattle.std.specs.Prelude.{ℕ, suc, List, [], ◌∷◌, Bool, true, false, Option, Some, None, String, codes, map, string_bytes, if◌then◌else◌}
use Rattle.std.specs.declared.alloc.Global.{Global}
use Rattle.es_tree.specs.Names.{first_text}
use Rattle.es_tree.specs.Tree.{Tree, node, Fields, done, ◌then◌, one, many, empty, ◌before◌, trees}
use Rattle.es_tree.specs.Words.{Text}
use Rattle.es_tree.specs.declared.ast_type.AstType.TheVariants.{CallExpression, Identifier, ImportDeclaration, ImportDefaultSpecifier, StringLiteral, VariableDeclaration, VariableDeclarator}
use Rattle.es_tree.specs.declared.helper.Helper.{Helper}
use Rattle.es_tree.specs.declared.operators.SourceType.{SourceType}
use Rattle.es_tree.specs.declared.operators.SourceType.TheVariants.{Module, Script}
use Rattle.es_steps.specs.Nodes.{made}
use Rattle.es_steps.specs.Open.{is_import}
use Rattle.es_helper_calls.specs.HelperCalls.{bound_of, is_called, named_helper}
use Rattle.es_helper_imports.specs.Imported.{helper_source, unmarked}
use Rattle.lower_fresh_names.specs.Names.{name_with}

abbrev pub name_node : Text → Tree
name_node x = name_with 0 x

-- the helper of this name, where it is one of `babelHelpers`
abbrev pub property_helper : Tree → Tree → Option Helper
property_helper o (node Identifier l fs) = if is_called (codes "babelHelpers") o then named_helper (first_text l.texts) else None
property_helper o t = None

-- whether the second field is a list
abbrev pub has_arguments : Fields → Bool
has_arguments (f then (many ts then fs)) = true
has_arguments fs = false

-- what a helper is called by, where these helpers have these names
abbrev pub callee_of : List Helper → List (String Global) → Helper → Tree
callee_of hs xs h = name_node (bound_of hs (unmarked (map string_bytes xs)) h).name

-- STATEMENTS

abbrev pub string_literal : Text → Tree
string_literal t = node StringLiteral (made (Some t ∷ []) []) done

abbrev pub import_statement : Tree → Tree → Tree
import_statement local source = node ImportDeclaration (made [] []) (many (node ImportDefaultSpecifier (made [] []) (one local then done) before empty) then one source then many empty then done)

abbrev pub require_statement : Tree → Tree → Tree
require_statement local source =
    let call = node CallExpression (made [] (false ∷ [])) (one (name_node (codes "require")) then many (trees (source ∷ [])) then done) in
    node VariableDeclaration (made (Some (codes "var") ∷ []) []) (many (node VariableDeclarator (made [] []) (one local then one call then done) before empty) then done)

abbrev pub top_statement : SourceType → Text → Text → Tree
top_statement Module source x = import_statement (name_node x) (string_literal source)
top_statement Script source x = require_statement (name_node x) (string_literal source)

-- one for each of these helpers, under these names
abbrev pub all_statements : SourceType → Text → List Helper → List Text → List Tree
all_statements t m (h ∷ hs) (x ∷ xs) = top_statement t (helper_source m h) x ∷ all_statements t m hs xs
all_statements t m hs xs = []

-- how many imports a list begins with
abbrev pub imports_before : List Tree → ℕ
imports_before [] = 0
imports_before (t ∷ ts) = if is_import t then suc (imports_before ts) else 0

abbrev pub source_type : Bool → SourceType
source_type in_module = if in_module then Module else Script
