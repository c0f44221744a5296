-- What is made, as the program is read: with the id 0 and at no place, and with no marks of scope tables; and tests of lists as the code has them.
use Rattle.std.specs.Prelude.{List, [], ◌∷◌, Bool, true, false, codes}
use Rattle.es_tree.specs.Tree.{Tree, node, Fields, done, ◌then◌, Field, one, Trees, empty, ◌before◌}
use Rattle.es_tree.specs.Words.{Text}
use Rattle.es_tree.specs.declared.ast_type.AstType.TheVariants.{StringLiteral}
use Rattle.es_steps.specs.Nodes.{declaration_node, declarator_with}
use Rattle.es_helper_calls.specs.TextLists.{are_texts, is_text_list}
use Rattle.es_top_imports.specs.TopImports.{with_top}
use Rattle.lower_fresh_names.specs.Names.{name_with}

-- `_excluded = ["a"]`
abbrev pub declarator_with_name : Text → Tree → Tree
declarator_with_name x keys = declarator_with (name_with 0 x) keys

-- the program with `const _excluded = ["a"], _excluded2 = ["b"];` of these declarators behind its first imports
abbrev pub with_declarators : List Tree → Tree → Tree
with_declarators [] p = p
with_declarators (d ∷ ds) p = with_top (declaration_node (codes "const") (d ∷ ds) before empty) p

-- TESTS

-- a source and a list of keys
abbrev pub lists_keys : Trees → Bool
lists_keys (s before (keys before empty)) = is_text_list keys
lists_keys ts = false

abbrev pub hold_texts : Fields → Bool
hold_texts done = false
hold_texts (f then fs) = are_texts (f then fs)

abbrev pub is_string : Tree → Bool
is_string (node StringLiteral l done) = true
is_string t = false

abbrev pub is_text : Field → Bool
is_text (one t) = is_string t
is_text f = false
