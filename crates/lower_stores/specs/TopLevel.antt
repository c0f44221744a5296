-- What is to be written at the top of a program.
use Rattle.std.specs.Prelude.{ℕ, ◌+◌, Bool, true, false, List, [], ◌∷◌, ◌++◌, Option, if◌then◌else◌, option_to_list}
use Rattle.std.specs.Coded.{Coded, coded_list}
use Rattle.es_tree.specs.Tree.{Tree, kind_of}
use Rattle.es_tree.specs.TreeCode.{tree_code}
use Rattle.es_tree.specs.declared.ast_type.AstType.{AstType}
use Rattle.es_tree.specs.declared.ast_type.AstType.TheVariants.{ImportDeclaration}

abbrev pub trees_code : Coded (List Tree)
trees_code = coded_list tree_code

abbrev pub is_import_kind : AstType → Bool
is_import_kind ImportDeclaration = true
is_import_kind _ = false

abbrev pub is_import : Tree → Bool
is_import s = is_import_kind (kind_of s)

-- a program's statements with these in front of the first that is no import
abbrev pub behind_imports : List Tree → List Tree → List Tree
behind_imports ts [] = ts
behind_imports ts (s ∷ ss) = if is_import s then s ∷ behind_imports ts ss else ts ++ s ∷ ss

-- What is to be written at the top of a program, with the imports, or the requires of a script, and the program's own
-- declarations by `var` and by `let` behind the statements that are there.
abbrev pub with_declarations : List Tree → List Tree → Option Tree → Option Tree → List Tree
with_declarations stored imports var lets = stored ++ imports ++ option_to_list var ++ option_to_list lets

-- A program's statements with all that is pending for it (16.1, 16.2): the constants of excluded keys, the names for `this`,
-- imports or requires, `var` and `let`, behind the imports of the source. The lists come in the order of `pending_statements`,
-- and before the same statement as in `whole_list` (es_steps/specs/Open.antt), with one statement for all imports of a module.
abbrev pub whole_body : List Tree → List Tree → List Tree → Option Tree → Option Tree → List Tree → List Tree
whole_body constants receivers imports var lets body = behind_imports (with_declarations (constants ++ receivers) imports var lets) body

-- how many imports stand before the first statement that is none
abbrev pub imports_before : List Tree → ℕ
imports_before [] = 0
imports_before (s ∷ ss) = if is_import s then imports_before ss + 1 else 0
