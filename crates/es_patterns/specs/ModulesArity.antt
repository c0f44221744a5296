-- The arity of each kind of node.
use Rattle.std.specs.Prelude.{[], ◌∷◌}
use Rattle.es_tree.specs.Tree.{Tree}
use Rattle.es_tree.specs.declared.ast_type.AstType.TheVariants.{
  ImportDeclaration,
  ImportSpecifier,
  ImportDefaultSpecifier,
  ImportNamespaceSpecifier,
  ImportAttribute,
  ExportNamedDeclaration,
  ExportSpecifier,
  ExportDefaultDeclaration,
  ExportAllDeclaration,
}
use Rattle.es_tree.specs.Arity.{Opens, required, optional, list}

abbrev pub IsImportDeclaration : Tree → Type 0
IsImportDeclaration = Opens ImportDeclaration (list ∷ required ∷ list ∷ [])

abbrev pub IsImportSpecifier : Tree → Type 0
IsImportSpecifier = Opens ImportSpecifier (required ∷ required ∷ [])

abbrev pub IsImportDefaultSpecifier : Tree → Type 0
IsImportDefaultSpecifier = Opens ImportDefaultSpecifier (required ∷ [])

abbrev pub IsImportNamespaceSpecifier : Tree → Type 0
IsImportNamespaceSpecifier = Opens ImportNamespaceSpecifier (required ∷ [])

abbrev pub IsImportAttribute : Tree → Type 0
IsImportAttribute = Opens ImportAttribute ([])

abbrev pub IsExportNamedDeclaration : Tree → Type 0
IsExportNamedDeclaration = Opens ExportNamedDeclaration (optional ∷ list ∷ optional ∷ list ∷ [])

abbrev pub IsExportSpecifier : Tree → Type 0
IsExportSpecifier = Opens ExportSpecifier (required ∷ required ∷ [])

abbrev pub IsExportDefaultDeclaration : Tree → Type 0
IsExportDefaultDeclaration = Opens ExportDefaultDeclaration (required ∷ [])

abbrev pub IsExportAllDeclaration : Tree → Type 0
IsExportAllDeclaration = Opens ExportAllDeclaration (optional ∷ required ∷ list ∷ [])
