-- Exports of declarations with an object rest (ECMA-262, 16.2.3): `export const { a, ...b } = c;` becomes
-- `const { a, ...b } = c; export { a, b };`, whose declaration is then lowered as any other, and what it makes beside isn't exported.
use Rattle.std.specs.Prelude.{◌||◌, Bool, false, List, [], ◌∷◌, ◌++◌, if◌then◌else◌}
use Rattle.es_tree.specs.BoundNames.{bound_identifiers}
use Rattle.es_tree.specs.Names.{first_text}
use Rattle.es_tree.specs.Tree.{Tree, node, Label, done, ◌then◌, missing, one, many, statements, Trees, empty, ◌before◌, label_of}
use Rattle.es_tree.specs.Words.{Text}
use Rattle.es_tree.specs.declared.ast_type.AstType.TheVariants.{ExportNamedDeclaration, ExportSpecifier, Program, VariableDeclaration, VariableDeclarator}
use Rattle.es_steps.specs.Nodes.{identifier, made, word}
use Rattle.es_steps.specs.UsingBodies.{bound_as}
use Rattle.es_pattern_moves.specs.Moved.{made_for, plain_name}
use Rattle.es_rest_shapes.specs.RestShapes.{declares_rest}

-- WHICH EXPORTS

-- one of a declaration with an object rest
abbrev pub is_split : Tree → Bool
is_split (node ExportNamedDeclaration l (one d then many empty then missing then many empty then done)) = declares_rest d
is_split _ = false

-- whether one stands among these statements, and in a program
abbrev pub some_split : Trees → Bool
some_split empty = false
some_split (t before ts) = is_split t || some_split ts

abbrev pub has_split : Tree → Bool
has_split (node Program l (many ds then statements ts then done)) = some_split ts
has_split _ = false

-- NAMES that a declaration declares, in source order (8.2.1)

abbrev pub names_of_declarator : Tree → List Tree
names_of_declarator (node VariableDeclarator l (one p then fs)) = bound_identifiers p
names_of_declarator _ = []

abbrev pub names_of_declarators : Trees → List Tree
names_of_declarators empty = []
names_of_declarators (d before ds) = names_of_declarator d ++ names_of_declarators ds

abbrev pub names_of_declaration : Tree → List Tree
names_of_declaration (node VariableDeclaration l (many ds then done)) = names_of_declarators ds
names_of_declaration _ = []

-- WHAT IS MADE: a declared name once more, its text, and the label of what is made for it or for its export
pub record Makes : Type 0 where
  pub again : Tree → Tree
  pub text : Tree → Tree
  pub label : Tree → Label

-- `a as a`
abbrev pub specifier : Makes → Tree → Tree
specifier m x = node ExportSpecifier (m.label x) (one (m.again x) then one (m.text x) then done)

abbrev pub specifiers : Makes → List Tree → Trees
specifiers m [] = empty
specifiers m (x ∷ xs) = specifier m x before specifiers m xs

-- `export { a, b };`, for this export
abbrev pub export_of : Makes → Tree → List Tree → Tree
export_of m t xs = node ExportNamedDeclaration (m.label t) (missing then many (specifiers m xs) then missing then many empty then done)

-- LISTS: `const { a, ...b } = c; export { a, b };` before other statements
abbrev pub split_before : Makes → Tree → Trees → Trees
split_before m (node ExportNamedDeclaration l (one d then fs)) ts = d before export_of m (node ExportNamedDeclaration l (one d then fs)) (names_of_declaration d) before ts
split_before m t ts = t before ts

abbrev pub split_list : Makes → Trees → Trees
split_list m empty = empty
split_list m (t before ts) = if is_split t then split_before m t (split_list m ts) else t before split_list m ts

-- A PROGRAM
abbrev pub split : Makes → Tree → Tree
split m (node Program l (many ds then statements ts then done)) = node Program l (many ds then statements (split_list m ts) then done)
split m t = t

abbrev pub text_of : Tree → Text
text_of x = first_text (label_of x).texts

-- as it is read: what is made has the id of the name, or of the export
abbrev pub plainly : Makes
plainly = record { again = λ x. plain_name (text_of x) x; text = λ x. plain_name (text_of x) x; label = λ x. made_for x [] }

-- and with its symbols
abbrev pub with_symbols : Makes
with_symbols = record { again = λ x. identifier (bound_as (label_of x)); text = λ x. word (text_of x); label = λ x. made [] [] }
