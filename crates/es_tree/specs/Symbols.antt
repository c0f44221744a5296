-- The scope of a core program: its symbols and whether it is strict (ECMA-262, 8.2, 9.1 and 11.2.2). A core program
-- has one scope, numbered 0, whose bindings are the names that the declarations of its body declare.
use Rattle.std.specs.Prelude.{ℕ, suc, List, [], ◌∷◌, Bool, false, not, ◌||◌, Option, Some, None, option_map, filter, bytes_eq, codes, if◌then◌else◌}
use Rattle.es_tree.specs.Words.{Text}
use Rattle.es_tree.specs.Names.{first_text}
use Rattle.es_tree.specs.Scopes.{Declared, is_named}
use Rattle.es_tree.specs.Tree.{Tree, node, Label, Fields, ◌then◌, many, Trees, empty, ◌before◌}
use Rattle.es_tree.specs.declared.ast_type.AstType.{AstType}
use Rattle.es_tree.specs.declared.ast_type.AstType.TheVariants.{Program, Directive}

-- SYMBOLS (ECMA-262, 8.2 and 9.1.1)

abbrev pub has_other_name : Text → Declared → Bool
has_other_name x d = not (is_named x d)

-- one symbol for each declared name, in the order of first declaration
abbrev pub symbols : List Declared → List Declared
symbols [] = []
symbols (d ∷ ds) = d ∷ filter (has_other_name d.name) (symbols ds)

-- the place of the first of this name, counted from 0
abbrev pub place_of : List Declared → Text → Option ℕ
place_of [] x = None
place_of (d ∷ ds) x = if is_named x d then Some 0 else option_map suc (place_of ds x)

-- the number of the symbol of a name, if it is declared
abbrev pub symbol_of : List Declared → Text → Option ℕ
symbol_of ds x = place_of (symbols ds) x

-- FLAGS OF A SYMBOL, by the word of its first declaration (14.3.1 and 14.3.2; `using` is of the Explicit Resource
-- Management proposal)

abbrev pub is_function_scoped : Declared → Bool
is_function_scoped d = bytes_eq d.kind (codes "var")

abbrev pub is_constant : Declared → Bool
is_constant d = bytes_eq d.kind (codes "const") || bytes_eq d.kind (codes "using")

abbrev pub is_block_scoped : Declared → Bool
is_block_scoped d = bytes_eq d.kind (codes "let") || is_constant d

-- STRICT MODE (11.2.2)

abbrev pub is_module : AstType → Label → Bool
is_module Program l = bytes_eq (first_text l.texts) (codes "module")
is_module _ l = false

abbrev pub is_use_strict : Tree → Bool
is_use_strict (node Directive l fs) = bytes_eq (first_text l.texts) (codes "use strict")
is_use_strict _ = false

abbrev pub some_use_strict : Trees → Bool
some_use_strict empty = false
some_use_strict (d before ds) = is_use_strict d || some_use_strict ds

-- whether a directive is `use strict`
abbrev pub has_use_strict : Fields → Bool
has_use_strict (many ds then fs) = some_use_strict ds
has_use_strict _ = false

-- a module is strict, and so is a program with the directive
abbrev pub is_strict : Tree → Bool
is_strict (node k l fs) = is_module k l || has_use_strict fs
