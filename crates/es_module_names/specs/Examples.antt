-- A module with each kind of import and export: it has form, and these are its module requests and exported names.
use Rattle.std.specs.Prelude.{◌≡◌, List, [], ◌∷◌, true, false, Some, None, codes}
use Rattle.es_tree.specs.HasForm.{has_form}
use Rattle.es_tree.specs.Tree.{Tree, node, Field, done, ◌then◌, missing, one, many, statements, empty, trees}
use Rattle.es_tree.specs.Words.{Text}
use Rattle.es_tree.specs.declared.ast_type.AstType.TheVariants.{ArrayPattern, AssignmentPattern, ClassDeclaration, ExportAllDeclaration, ExportDefaultDeclaration, ExportNamedDeclaration, FunctionDeclaration, ObjectPattern, PatternProperty, Program, RestElement}
use Rattle.es_tree.specs.declared.table.Sort.TheVariants.{Program as s-Program}
use Rattle.es_steps.specs.Nodes.{body_node, declaration_node, declarator_with, import_node, import_specifier, made, specifier_node, statement_node, string_node, word}
use Rattle.es_module_names.specs.Modules.{requests_of, star_requests_of, exported_of}

-- `import x from "a";`
abbrev pub imports : Tree
imports = import_node (import_specifier None (record { name = codes "x"; symbol = None })) (string_node (codes "a")) empty

-- `export * as n from "m";`, `export * from "m";`
abbrev pub exports_all : Field → Text → Tree
exports_all exported source = node ExportAllDeclaration (made [] []) (exported then one (string_node source) then many empty then done)

-- `export .. from "m";`, where there is a source
abbrev pub exports_names : List Tree → Field → Tree
exports_names specifiers source = node ExportNamedDeclaration (made [] []) (missing then many (trees specifiers) then source then many empty then done)

abbrev pub exports_declaration : Tree → Tree
exports_declaration d = node ExportNamedDeclaration (made [] []) (one d then many empty then missing then many empty then done)

-- `k: p`
abbrev pub pattern_property : Text → Tree → Tree
pattern_property k p = node PatternProperty (made [] (false ∷ false ∷ [])) (one (word k) then one p then done)

abbrev pub rest_element : Tree → Tree
rest_element p = node RestElement (made [] []) (one p then done)

-- `{ k: p = x, l: [q, , ...r], ...s }`
abbrev pub pattern : Tree
pattern =
    let first : Tree = node AssignmentPattern (made [] []) (one (word (codes "p")) then one (word (codes "x")) then done) in
    let second : Tree = node ArrayPattern (made [] []) (one (word (codes "q")) then missing then one (rest_element (word (codes "r"))) then done) in
    node ObjectPattern (made [] []) (many (trees (pattern_property (codes "k") first ∷ pattern_property (codes "l") second ∷ rest_element (word (codes "s")) ∷ [])) then done)

-- `function f() {}`, `class c {}`
abbrev pub function_node : Text → Tree
function_node f = node FunctionDeclaration (made [] []) (one (word f) then many empty then one (body_node empty) then done)

abbrev pub class_node : Text → Tree
class_node c = node ClassDeclaration (made [] []) (one (word c) then missing then many empty then done)

abbrev pub module_list : List Tree
module_list =
    imports ∷
    exports_all (one (word (codes "n"))) (codes "b") ∷
    exports_all missing (codes "c") ∷
    exports_names (specifier_node (word (codes "y")) (string_node (codes "z w")) ∷ []) (one (string_node (codes "a"))) ∷
    exports_names (specifier_node (word (codes "x")) (word (codes "u")) ∷ []) missing ∷
    exports_declaration (declaration_node (codes "const") (declarator_with pattern (word (codes "x")) ∷ declarator_with (word (codes "t")) (word (codes "x")) ∷ [])) ∷
    exports_declaration (function_node (codes "f")) ∷
    exports_declaration (class_node (codes "c")) ∷
    declaration_node (codes "var") (declarator_with (word (codes "v")) (word (codes "x")) ∷ []) ∷
    statement_node (word (codes "x")) ∷
    node ExportDefaultDeclaration (made [] []) (one (function_node (codes "g")) then done) ∷
    []

abbrev pub module_node : Tree
module_node = node Program (made (Some (codes "module") ∷ []) []) (many empty then statements (trees module_list) then done)

pub record LawExamples : Type 0 where
  pub formed : has_form s-Program module_node ≡ true
  pub requests : requests_of module_node ≡ codes "a" ∷ codes "b" ∷ codes "c" ∷ codes "a" ∷ []
  pub stars : star_requests_of module_node ≡ codes "c" ∷ []
  pub exports : exported_of module_node ≡ codes "n" ∷ codes "z w" ∷ codes "u" ∷ codes "p" ∷ codes "q" ∷ codes "r" ∷ codes "s" ∷ codes "t" ∷ codes "f" ∷ codes "c" ∷ codes "default" ∷ []
