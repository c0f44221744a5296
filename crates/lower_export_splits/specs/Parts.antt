-- What stands in the fields of a node, as the code asks it.
use Rattle.std.specs.Prelude.{◌&&◌, Bool, None, Option, [], false, true, ℕ}
use Rattle.es_tree.specs.Children.{child_at}
use Rattle.es_tree.specs.Tree.{Field, Fields, Tree, Trees, done, empty, many, missing, node, one, statements, ◌then◌}
use Rattle.es_tree.specs.declared.ast_type.AstType.TheVariants.{ExportNamedDeclaration, VariableDeclaration, VariableDeclarator}
use Rattle.es_steps.specs.Nodes.{made}
use Rattle.es_rest_shapes.specs.RestShapes.{declares_rest}
use Rattle.es_export_splits.specs.Splits.{some_split}

-- A PROGRAM, one of whose statements is split
abbrev pub hold_split : Fields → Bool
hold_split (many ds then statements ts then done) = some_split ts
hold_split _ = false

-- AN EXPORT that is split: its declaration, and nothing more
abbrev pub is_missing : Field → Bool
is_missing missing = true
is_missing _ = false

abbrev pub is_empty_list : Field → Bool
is_empty_list (many empty) = true
is_empty_list _ = false

abbrev pub hold_nothing : Fields → Bool
hold_nothing (many empty then missing then many empty then done) = true
hold_nothing _ = false

abbrev pub export_rest : Fields → Bool
export_rest (one d then fs) = hold_nothing fs && declares_rest d
export_rest _ = false

-- `export { a, b };`, with this id and these specifiers
abbrev pub export_with : ℕ → Trees → Tree
export_with i xs = node ExportNamedDeclaration (record (made [] []) { id = i }) (missing then many xs then missing then many empty then done)

-- A DECLARATION: its declarators, and what each declares

abbrev pub only_list : Fields → Trees
only_list (many ts then done) = ts
only_list _ = empty

abbrev pub declarators_of : Tree → Trees
declarators_of (node VariableDeclaration l fs) = only_list fs
declarators_of _ = empty

abbrev pub pattern_of : Tree → Option Tree
pattern_of (node VariableDeclarator l fs) = child_at 0 fs
pattern_of _ = None
