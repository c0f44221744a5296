-- Which programs these runs are for, and how a program of a run gets its helpers.
use Rattle.std.specs.Prelude.{◌≡◌, [], Bool, true, false, ◌&&◌, not, bytes_eq, codes, if◌then◌else◌, string_bytes, is_some}
use Rattle.es_tree.specs.Words.{Text}
use Rattle.es_tree.specs.Names.{first_text, names_of}
use Rattle.es_tree.specs.Fresh.{is_among}
use Rattle.es_tree.specs.HasForm.{has_form}
use Rattle.es_tree.specs.StaticRules.{breaks}
use Rattle.es_tree.specs.Scopes.{own_text}
use Rattle.es_tree.specs.Walks.{all_nodes}
use Rattle.es_tree.specs.Tree.{Tree, node, Label, Fields, ◌then◌, one, many, empty, ◌before◌}
use Rattle.es_tree.specs.declared.ast_type.AstType.{AstType}
use Rattle.es_tree.specs.declared.ast_type.AstType.TheVariants.{StaticBlock, FunctionDeclaration, FunctionExpression, FunctionBody, ArrowFunctionExpression, ClassDeclaration, ClassExpression, MethodDefinition, PropertyDefinition, ReturnStatement, PrivateIdentifier, Super, ImportDeclaration, CallExpression, Identifier, StringLiteral, ObjectProperty, MetaProperty}
use Rattle.es_tree.specs.declared.table.Sort.TheVariants.{Program as s-Program}
use Rattle.es_tree.specs.declared.options.HelperLoaderMode.{HelperLoaderMode}
use Rattle.es_tree.specs.declared.options.HelperLoaderMode.TheVariants.{Inline, External, Runtime}
use Rattle.es_tree.specs.declared.options.HelperLoaderOptions.{HelperLoaderOptions}
use Rattle.es_statement_runs.specs.Names.{is_word}
use Rattle.es_statement_runs.specs.Scopes.{is_own_cell}
use Rattle.es_statement_runs.specs.Helpers.{Supply, helper_in}
use Rattle.es_statement_runs.specs.Helpers.Supply.{no_helpers, spread_by_global, by_global, by_import, by_require}

-- PROGRAMS WITHOUT FUNCTIONS, ARROWS AND CLASSES: no node of theirs, and none that only stands in them

abbrev pub is_statement_kind : AstType → Bool
is_statement_kind StaticBlock = false
is_statement_kind FunctionDeclaration = false
is_statement_kind FunctionExpression = false
is_statement_kind FunctionBody = false
is_statement_kind ArrowFunctionExpression = false
is_statement_kind ClassDeclaration = false
is_statement_kind ClassExpression = false
is_statement_kind MethodDefinition = false
is_statement_kind PropertyDefinition = false
is_statement_kind ReturnStatement = false
is_statement_kind PrivateIdentifier = false
is_statement_kind Super = false
is_statement_kind _ = true

-- a property is a key with a value, and `import.meta` the one meta property
abbrev pub is_statement_node : AstType → Label → Fields → Bool
is_statement_node ObjectProperty l fs = is_word (codes "init") (first_text l.texts)
is_statement_node MetaProperty l fs = is_word (codes "import") (first_text l.texts)
is_statement_node k l fs = is_statement_kind k

abbrev pub is_without_functions : Tree → Bool
is_without_functions = all_nodes is_statement_node

-- VALID PROGRAMS OF THE CLASS: they have form, keep the static rules, and no identifier of theirs is one of the machine's own cells, as none is that
-- holds bytes alone

abbrev pub names_no_cell : AstType → Label → Fields → Bool
names_no_cell Identifier l fs = not (is_own_cell (first_text l.texts))
names_no_cell k l fs = true

pub record IsStatementProgram (p : Tree) : Type 0 where
  pub form : has_form s-Program p ≡ true
  pub rules : breaks p ≡ []
  pub without_functions : is_without_functions p ≡ true
  pub names : all_nodes names_no_cell p ≡ true

-- HOW A PROGRAM GETS ITS HELPERS, by the options and its source type

abbrev pub is_module_text : Text → Bool
is_module_text t = bytes_eq t (codes "module")

abbrev pub program_type : Tree → Text
program_type (node k l fs) = first_text l.texts

abbrev pub supply_by : HelperLoaderMode → Text → Bool → Supply
supply_by External m module_code = by_global
supply_by Runtime m module_code = if module_code then by_import m else by_require m
supply_by Inline m module_code = no_helpers

abbrev pub supply_of : HelperLoaderOptions → Tree → Supply
supply_of o p = supply_by o.mode (string_bytes o.module_name) (is_module_text (program_type p))

-- PROGRAMS THAT USE NO HELPER THEMSELVES: none names the object of all helpers, imports one or requires one

abbrev pub imports_helper : Text → Fields → Bool
imports_helper m (is then (one source then fs)) = is_some (helper_in m (own_text source))
imports_helper m fs = false

abbrev pub requires_helper : Text → Fields → Bool
requires_helper m (one (node Identifier j gs) then (many (node StringLiteral i hs before empty) then fs)) = is_word (codes "require") (first_text j.texts) && is_some (helper_in m (first_text i.texts))
requires_helper m fs = false

abbrev pub no_import_node : Text → AstType → Label → Fields → Bool
no_import_node m ImportDeclaration l fs = not (imports_helper m fs)
no_import_node m k l fs = true

abbrev pub no_require_node : Text → AstType → Label → Fields → Bool
no_require_node m CallExpression l fs = not (requires_helper m fs)
no_require_node m k l fs = true

abbrev pub uses_no_helper : Supply → Tree → Bool
uses_no_helper no_helpers p = true
uses_no_helper spread_by_global p = not (is_among (names_of p) (codes "babelHelpers"))
uses_no_helper by_global p = not (is_among (names_of p) (codes "babelHelpers"))
uses_no_helper (by_import m) p = all_nodes (no_import_node m) p
uses_no_helper (by_require m) p = all_nodes (no_require_node m) p
