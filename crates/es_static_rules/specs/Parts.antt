-- Parts of the definitions of the static rules, as the code tests them one by one.
use Rattle.std.specs.Prelude.{List, [], ◌∷◌, Bool, false, not, ◌&&◌, ◌||◌, Option, Some, None}
use Rattle.std.specs.List.{list_any}
use Rattle.es_tree.specs.Ancestors.{Ancestor, is_breakable, is_derived, is_in_loop, is_script_top, labels, leads_by, stands_in}
use Rattle.es_tree.specs.CoreStaticRules.{has_optional}
use Rattle.es_tree.specs.HasForm.{same_type}
use Rattle.es_tree.specs.Names.{third_stands}
use Rattle.es_tree.specs.Scopes.{own_text}
use Rattle.es_tree.specs.StaticRules.{is_bad_method, is_label, is_loop_label}
use Rattle.es_tree.specs.Tree.{Tree, node, Trees, empty, ◌then◌, many}
use Rattle.es_tree.specs.declared.ast_type.AstType.{AstType}
use Rattle.es_tree.specs.declared.ast_type.AstType.TheVariants.{ExportNamedDeclaration, ForInStatement, FunctionExpression, MethodDefinition}

-- whether a `break` with this label, or without one, leads somewhere
abbrev pub has_break_target : List Ancestor → Option Tree → Bool
has_break_target up None = is_breakable up
has_break_target up (Some n) = list_any (is_label (own_text n)) (labels up)

-- whether a `continue` does
abbrev pub has_continue_target : List Ancestor → Option Tree → Bool
has_continue_target up None = is_in_loop up
has_continue_target up (Some n) = list_any (is_loop_label (own_text n)) (labels up)

-- whether the spine that begins here, if there is one, has an optional mark
abbrev pub has_optional_within : Option Tree → Bool
has_optional_within None = false
has_optional_within (Some t) = has_optional t

-- whether the parent is a class that extends another
abbrev pub is_in_derived : List Ancestor → Bool
is_in_derived [] = false
is_in_derived (c ∷ up) = is_derived c

-- whether a specifier of an export without a source stands here
abbrev pub is_in_local_export : List Ancestor → Bool
is_in_local_export [] = false
is_in_local_export (e ∷ up) = leads_by ExportNamedDeclaration 1 e && not (third_stands e.fields)

-- whether the node is a method, and a constructor where none may be
abbrev pub is_bad_method_node : Tree → Bool
is_bad_method_node (node MethodDefinition l fs) = is_bad_method l fs
is_bad_method_node _ = false

-- the parameters of a function expression
abbrev pub parameters_of : Tree → Trees
parameters_of (node FunctionExpression l (n then (many ps then gs))) = ps
parameters_of _ = empty

-- whether no `using` may stand here
abbrev pub is_misplaced_using : List Ancestor → Bool
is_misplaced_using up = is_script_top up || stands_in ForInStatement 0 up || stands_in ExportNamedDeclaration 0 up

-- whether the parent is of this kind
abbrev pub is_part_of : AstType → List Ancestor → Bool
is_part_of k [] = false
is_part_of k (a ∷ up) = same_type a.kind k
