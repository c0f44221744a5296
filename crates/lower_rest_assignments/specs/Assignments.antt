-- Which assignments to a pattern with a rest are lowered (ECMA-262, 13.15.5): each that has form, and whose rest is assigned to a name or a member.
use Rattle.std.specs.Prelude.{◌&&◌, Bool, false, true, bytes_eq, codes}
use Rattle.es_tree.specs.CoreStaticRules.{is_simple_target}
use Rattle.es_tree.specs.Names.{first_text}
use Rattle.es_tree.specs.Parens.{without_parens}
use Rattle.es_tree.specs.Tree.{Tree, node, Label, Fields, Trees, empty, ◌before◌, kind_of}
use Rattle.es_tree.specs.declared.ast_type.AstType.{AstType}
use Rattle.es_tree.specs.declared.ast_type.AstType.TheVariants.{AssignmentExpression, ObjectTarget, TargetProperty, TargetRest}
use Rattle.es_rest_nodes.specs.RestFields.{on_list, on_one}
use Rattle.lower_temporaries.specs.Shapes.{is_pair, on_two}

-- a key and a target
abbrev pub is_property : Tree → Bool
is_property (node TargetProperty l fs) = is_pair fs
is_property _ = false

abbrev pub are_properties : Trees → Bool
are_properties empty = true
are_properties (t before ts) = is_property t && are_properties ts

-- a rest whose target is a name or a member, maybe in parentheses
abbrev pub has_simple_target : Fields → Bool
has_simple_target fs = on_one (λ t. is_simple_target (kind_of (without_parens t))) fs

abbrev pub is_simple_rest : Tree → Bool
is_simple_rest (node TargetRest l fs) = has_simple_target fs
is_simple_rest _ = false

-- properties and such a rest at the end
abbrev pub are_members : Trees → Bool
are_members empty = false
are_members (t before empty) = is_simple_rest t
are_members (t before ts) = is_property t && are_members ts

abbrev pub has_members : Fields → Bool
has_members fs = on_list are_members fs

abbrev pub is_lowerable_pattern : Tree → Bool
is_lowerable_pattern (node ObjectTarget l fs) = has_members fs
is_lowerable_pattern _ = false

-- such a pattern and a value
abbrev pub takes_pattern : Fields → Bool
takes_pattern fs = on_two (λ p e. is_lowerable_pattern p) fs

abbrev pub is_lowerable_assignment : AstType → Label → Fields → Bool
is_lowerable_assignment AssignmentExpression l fs = bytes_eq (first_text l.texts) (codes "=") && takes_pattern fs
is_lowerable_assignment _ l fs = false
