-- An export of another module's namespace (ECMA-262, 16.2.3), and the import and the export that take its place.
use Rattle.std.specs.Prelude.{ℕ, ◌+◌, Bool, true, false, []}
use Rattle.es_tree.specs.Tree.{Tree, node, Label, Fields, done, ◌then◌, missing, one, many, Trees, empty, ◌before◌}
use Rattle.es_tree.specs.declared.ast_type.AstType.{AstType}
use Rattle.es_tree.specs.declared.ast_type.AstType.TheVariants.{ExportAllDeclaration, ExportNamedDeclaration, ExportSpecifier, ImportDeclaration, ImportNamespaceSpecifier}
use Rattle.es_tree.specs.declared.ids.NodeId.{NodeId}
use Rattle.es_tree.specs.declared.ids.Span.{Span}
use Rattle.es_scope.specs.declared.flags.SymbolFlags.{SymbolFlags}
use Rattle.es_steps.specs.Nodes.{made}

-- a name, a module and its attributes
abbrev pub is_whole : Fields → Bool
is_whole (one e then (one s then (many attributes then done))) = true
is_whole _ = false

-- `export * as n from "m" with { .. }`, as it has form
abbrev pub is_lowerable_export : AstType → Label → Fields → Bool
is_lowerable_export ExportAllDeclaration l fs = is_whole fs
is_lowerable_export _ l fs = false

-- the flags of a name that an import binds
abbrev pub import_flags : SymbolFlags
import_flags = record { function_scoped = false; block_scoped = false; constant = false; import = true; catch_variable = false; class = false }

-- the label of a node of this id at this place
abbrev pub place_of : NodeId → Span → Label
place_of id span = record (made [] []) { id = id.0; start = span.start; stop = span.end }

-- the label of a made node of this id
abbrev pub made_as : ℕ → Label
made_as id = record (made [] []) { id = id }

-- `import * as local from source with { attributes };`, with the id and the place of the node that has this label
abbrev pub import_of : Label → ℕ → Tree → Tree → Trees → Tree
import_of m id local source attributes = node ImportDeclaration (record (made_as m.id) { start = m.start; stop = m.stop }) (many (node ImportNamespaceSpecifier (made_as id) (one local then done) before empty) then one source then many attributes then done)

-- `export { local as exported };`
abbrev pub export_of : ℕ → Tree → Tree → Tree
export_of id local exported = node ExportNamedDeclaration (made_as (id + 1)) (missing then many (node ExportSpecifier (made_as id) (one local then one exported then done) before empty) then missing then many empty then done)
