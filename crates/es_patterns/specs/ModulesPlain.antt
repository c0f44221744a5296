-- What each kind of node is seen as.
use Rattle.es_tree.specs.Tree.{Tree, done, ◌then◌, one, many, trees}
use Rattle.es_tree.specs.Arity.{maybe}
use Rattle.es_tree.specs.Views.{plain}
use Rattle.es_tree.specs.declared.kind.Kind.TheVariants.{
  ImportDeclaration as k-ImportDeclaration,
  ImportSpecifier as k-ImportSpecifier,
  ImportDefaultSpecifier as k-ImportDefaultSpecifier,
  ImportNamespaceSpecifier as k-ImportNamespaceSpecifier,
  ImportAttribute as k-ImportAttribute,
  ExportNamedDeclaration as k-ExportNamedDeclaration,
  ExportSpecifier as k-ExportSpecifier,
  ExportDefaultDeclaration as k-ExportDefaultDeclaration,
  ExportAllDeclaration as k-ExportAllDeclaration,
}
use Rattle.es_patterns.specs.declared.modules.ImportDeclaration.{ImportDeclaration}
use Rattle.es_patterns.specs.declared.modules.ImportSpecifier.{ImportSpecifier}
use Rattle.es_patterns.specs.declared.modules.ImportDefaultSpecifier.{ImportDefaultSpecifier}
use Rattle.es_patterns.specs.declared.modules.ImportNamespaceSpecifier.{ImportNamespaceSpecifier}
use Rattle.es_patterns.specs.declared.modules.ImportAttribute.{ImportAttribute}
use Rattle.es_patterns.specs.declared.modules.ExportNamedDeclaration.{ExportNamedDeclaration}
use Rattle.es_patterns.specs.declared.modules.ExportSpecifier.{ExportSpecifier}
use Rattle.es_patterns.specs.declared.modules.ExportDefaultDeclaration.{ExportDefaultDeclaration}
use Rattle.es_patterns.specs.declared.modules.ExportAllDeclaration.{ExportAllDeclaration}

abbrev pub plain_import_declaration : ImportDeclaration → Tree
plain_import_declaration e = plain e.id e.span (k-ImportDeclaration) (many (trees e.specifiers.items) then one e.source then many (trees e.attributes.items) then done)

abbrev pub plain_import_specifier : ImportSpecifier → Tree
plain_import_specifier e = plain e.id e.span (k-ImportSpecifier) (one e.imported then one e.local then done)

abbrev pub plain_import_default_specifier : ImportDefaultSpecifier → Tree
plain_import_default_specifier e = plain e.id e.span (k-ImportDefaultSpecifier) (one e.local then done)

abbrev pub plain_import_namespace_specifier : ImportNamespaceSpecifier → Tree
plain_import_namespace_specifier e = plain e.id e.span (k-ImportNamespaceSpecifier) (one e.local then done)

abbrev pub plain_import_attribute : ImportAttribute → Tree
plain_import_attribute e = plain e.id e.span (k-ImportAttribute e.key e.value) (done)

abbrev pub plain_export_named_declaration : ExportNamedDeclaration → Tree
plain_export_named_declaration e = plain e.id e.span (k-ExportNamedDeclaration) (maybe e.declaration then many (trees e.specifiers.items) then maybe e.source then many (trees e.attributes.items) then done)

abbrev pub plain_export_specifier : ExportSpecifier → Tree
plain_export_specifier e = plain e.id e.span (k-ExportSpecifier) (one e.local then one e.exported then done)

abbrev pub plain_export_default_declaration : ExportDefaultDeclaration → Tree
plain_export_default_declaration e = plain e.id e.span (k-ExportDefaultDeclaration) (one e.declaration then done)

abbrev pub plain_export_all_declaration : ExportAllDeclaration → Tree
plain_export_all_declaration e = plain e.id e.span (k-ExportAllDeclaration) (maybe e.exported then one e.source then many (trees e.attributes.items) then done)
