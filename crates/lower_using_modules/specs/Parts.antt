-- What is made with two names, and what stands in the fields of a statement, as the code asks it.
use Rattle.std.specs.Prelude.{Bool, false, true, [], ◌∷◌, None, Option, Some, codes, if◌then◌else◌, ℕ}
use Rattle.es_tree.specs.Children.{child_at}
use Rattle.es_tree.specs.Tree.{Tree, node, Fields, done, ◌then◌, missing, one, many, statements, Trees, empty, ◌before◌}
use Rattle.es_tree.specs.Words.{Text, variable_declaration_kind_text}
use Rattle.es_tree.specs.declared.ast_type.AstType.TheVariants.{ClassDeclaration, ClassExpression, ExportDefaultDeclaration, ExportNamedDeclaration, ExportSpecifier, VariableDeclaration}
use Rattle.es_tree.specs.declared.operators.VariableDeclarationKind.{VariableDeclarationKind}
use Rattle.es_steps.specs.Nodes.{made}
use Rattle.es_export_splits.specs.Splits as splits
use Rattle.es_pattern_moves.specs.Moved.{plain_name}
use Rattle.es_using_rows.specs.Used as uses
use Rattle.es_using_rows.specs.UsingPlaces.{is_using_word, uses_in_list}
use Rattle.es_using_modules.specs.ModuleTops.{Makes, is_function, some_default}
use Rattle.lower_using.specs.Parts.{of_id}
use Rattle.lower_export_splits.specs.Parts.{export_with}

-- WHAT IS MADE, with this name of a default export and this context
abbrev pub making : Text → Text → Makes
making x c = record {
  used = uses.plainly (c ∷ []);
  split = splits.plainly;
  default = λ t. plain_name x t;
  inside = λ l c. c;
}

-- `export { C as default };`, with this id
abbrev pub default_export_with : ℕ → Tree → Tree
default_export_with i x = export_with i (node ExportSpecifier (record (made [] []) { id = i }) (one x then one (plain_name (codes "default") (of_id i)) then done) before empty)

-- A PROGRAM that declares by `using` at its top, and one with a default export that takes a name

abbrev pub hold_using : Fields → Bool
hold_using (many ds then statements ts then done) = uses_in_list ts
hold_using _ = false

abbrev pub hold_default : Fields → Bool
hold_default (many ds then statements ts then done) = some_default ts
hold_default _ = false

-- AN EXPORT of these fields that stays outside
abbrev pub export_stays : Fields → Bool
export_stays (missing then fs) = true
export_stays (one d then fs) = is_function d
export_stays _ = false

-- what an export exports, as default or not, and the name of a class

abbrev pub named_of : Tree → Option Tree
named_of (node ExportNamedDeclaration l fs) = child_at 0 fs
named_of _ = None

abbrev pub default_of : Tree → Option Tree
default_of (node ExportDefaultDeclaration l fs) = child_at 0 fs
default_of _ = None

abbrev pub class_name : Tree → Option Tree
class_name (node ClassDeclaration l fs) = child_at 0 fs
class_name _ = None

-- VARIABLES: a declaration with one list of declarators, and what they become

abbrev pub is_list : Fields → Bool
is_list (many ds then done) = true
is_list _ = false

abbrev pub is_variables : Tree → Bool
is_variables (node VariableDeclaration l fs) = is_list fs
is_variables _ = false

abbrev pub declarators_inside : VariableDeclarationKind → Text → Trees → Trees
declarators_inside k c ds = if is_using_word (Some (variable_declaration_kind_text k) ∷ []) then uses.used_declarators (uses.plainly (c ∷ [])) 0 ds else ds

-- CLASSES: one with a name or without, as a value

abbrev pub may_name : Fields → Bool
may_name (missing then fs) = true
may_name (one x then fs) = true
may_name _ = false

abbrev pub is_class : Tree → Bool
is_class (node ClassDeclaration l fs) = may_name fs
is_class _ = false

abbrev pub class_value : Tree → Tree
class_value (node ClassDeclaration l fs) = if may_name fs then node ClassExpression l fs else node ClassDeclaration l fs
class_value t = t
