-- What a module asks of other modules, and the names under which it exports (ECMA-262, 16.2): read off the statements of its list, in
-- their order.
use Rattle.std.specs.Prelude.{ℕ, zero, suc, List, [], ◌∷◌, ◌++◌, codes, map}
use Rattle.es_tree.specs.BoundNames.{bound_identifiers}
use Rattle.es_tree.specs.Names.{first_text}
use Rattle.es_tree.specs.Tree.{Tree, node, Fields, done, ◌then◌, Field, missing, one, many, statements, Trees, empty, ◌before◌, label_of}
use Rattle.es_tree.specs.Words.{Text}
use Rattle.es_tree.specs.declared.ast_type.AstType.TheVariants.{
  VariableDeclaration,
  VariableDeclarator,
  FunctionDeclaration,
  ClassDeclaration,
  ImportDeclaration,
  ExportNamedDeclaration,
  ExportSpecifier,
  ExportDefaultDeclaration,
  ExportAllDeclaration,
  Identifier,
  StringLiteral,
}
use Rattle.es_valid_steps.specs.Laws.{statements_of}

-- TEXTS IN FIELDS: what is read off each node in turn

abbrev pub texts_among : (Tree → List Text) → Trees → List Text
texts_among read empty = []
texts_among read (t before ts) = read t ++ texts_among read ts

abbrev pub texts_by : (Tree → List Text) → Field → List Text
texts_by read missing = []
texts_by read (one t) = read t
texts_by read (many ts) = texts_among read ts
texts_by read (statements ts) = texts_among read ts

-- in the field at this place, counted from 0
abbrev pub texts_at : (Tree → List Text) → ℕ → Fields → List Text
texts_at read n done = []
texts_at read zero (f then fs) = texts_by read f
texts_at read (suc n) (f then fs) = texts_at read n fs

-- the text of an identifier, or the value of a string literal (16.2.3, ModuleExportName)
abbrev pub name_text : Tree → List Text
name_text (node Identifier l fs) = first_text l.texts ∷ []
name_text (node StringLiteral l fs) = first_text l.texts ∷ []
name_text _ = []

-- MODULE REQUESTS (16.2.1.3): the source of each import, and of each export that has one, without its attributes. In the order of
-- statements and with repeats, which tells more of sources than the standard's list.

-- of a statement
abbrev pub request : Tree → List Text
request (node ImportDeclaration l fs) = texts_at name_text 1 fs
request (node ExportAllDeclaration l fs) = texts_at name_text 1 fs
request (node ExportNamedDeclaration l fs) = texts_at name_text 2 fs
request _ = []

abbrev pub requests_of : Tree → List Text
requests_of t = texts_among request (statements_of t)

-- the sources of `export * from "m"`, whose names are exported too (16.2.3.4, ExportEntries)
abbrev pub star_request : Tree → List Text
star_request (node ExportAllDeclaration l (missing then fs)) = texts_at name_text 0 fs
star_request _ = []

abbrev pub star_requests_of : Tree → List Text
star_requests_of t = texts_among star_request (statements_of t)

-- EXPORTED NAMES (16.2.3.3)

-- the bound names of a pattern or a name (8.2.1)
abbrev pub bound_texts : Tree → List Text
bound_texts t = map (λ i. first_text (label_of i).texts) (bound_identifiers t)

abbrev pub declarator_texts : Tree → List Text
declarator_texts (node VariableDeclarator l fs) = texts_at bound_texts 0 fs
declarator_texts _ = []

-- the bound names of a declaration
abbrev pub declared_texts : Tree → List Text
declared_texts (node VariableDeclaration l fs) = texts_at declarator_texts 0 fs
declared_texts (node FunctionDeclaration l fs) = texts_at name_text 0 fs
declared_texts (node ClassDeclaration l fs) = texts_at name_text 0 fs
declared_texts _ = []

-- of `x as n` it is `n`
abbrev pub specifier_text : Tree → List Text
specifier_text (node ExportSpecifier l fs) = texts_at name_text 1 fs
specifier_text _ = []

-- of a statement: `default`, the name of `export * as n`, the bound names of a declaration, and those of the specifiers
abbrev pub exported : Tree → List Text
exported (node ExportDefaultDeclaration l fs) = codes "default" ∷ []
exported (node ExportAllDeclaration l fs) = texts_at name_text 0 fs
exported (node ExportNamedDeclaration l fs) = texts_at declared_texts 0 fs ++ texts_at specifier_text 1 fs
exported _ = []

abbrev pub exported_of : Tree → List Text
exported_of t = texts_among exported (statements_of t)
