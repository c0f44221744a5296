-- The declarations that are lowered: each with a declarator of a pattern with a rest, and a value (ECMA-262, 14.3.3).
use Rattle.std.specs.Prelude.{Bool, false}
use Rattle.es_tree.specs.Tree.{Fields, Label, Tree, node}
use Rattle.es_tree.specs.declared.ast_type.AstType.{AstType}
use Rattle.es_tree.specs.declared.ast_type.AstType.TheVariants.{VariableDeclaration, VariableDeclarator}
use Rattle.es_rest_shapes.specs.RestShapes.{any_tree, is_plain_pattern}
use Rattle.es_rest_nodes.specs.RestFields.{on_list}
use Rattle.lower_temporaries.specs.Shapes.{on_two}

-- those of a declarator of such a pattern with a value
abbrev pub are_declarator_fields : Fields → Bool
are_declarator_fields fs = on_two (λ p e. is_plain_pattern p) fs

-- a declarator of such a pattern, with a value
abbrev pub is_lowerable : Tree → Bool
is_lowerable (node VariableDeclarator l fs) = are_declarator_fields fs
is_lowerable _ = false

abbrev pub has_lowerable : Fields → Bool
has_lowerable fs = on_list (any_tree is_lowerable) fs

abbrev pub is_lowerable_declaration : AstType → Label → Fields → Bool
is_lowerable_declaration VariableDeclaration l fs = has_lowerable fs
is_lowerable_declaration _ l fs = false
