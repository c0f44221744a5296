use Rattle.std.proofs.Common.{◌≡◌, ◌+◌, ◌*◌, drop}
use Rattle.es_tree.specs.Tree.{fields_size, tree_size, trees, trees_size}
use Rattle.es_tree.specs.Views.{plain_fields}
use Rattle.es_rest_shapes.specs.RestShapes.{are_plain}
use Rattle.es_rest_nodes.proofs.patterns.+plain.Given as goal

-- each call goes to a smaller part, or to one of the same size at a lower rank
abbrev pub decreases-is_plain_property : goal.decreases-is_plain_property
decreases-is_plain_property l = 4 * tree_size l.property.now

abbrev pub decreases-is_plain_value : goal.decreases-is_plain_value
decreases-is_plain_value l = 4 * tree_size l.value.now

abbrev pub decreases-is_plain_target : goal.decreases-is_plain_target
decreases-is_plain_target l = 4 * tree_size l.target.now

abbrev pub decreases-may_stand_last : goal.decreases-may_stand_last
decreases-may_stand_last l = 4 * tree_size l.member.now + 1

abbrev pub decreases-are_plain : goal.decreases-are_plain
decreases-are_plain l = 4 * trees_size (trees l.properties.now) + 1

abbrev pub decreases-are_plain_members : goal.decreases-are_plain_members
decreases-are_plain_members l = 4 * trees_size (trees l.members.now) + 2

abbrev pub decreases-are_plain_parts : goal.decreases-are_plain_parts
decreases-are_plain_parts l = 4 * fields_size (plain_fields l.fields.now) + 3

abbrev pub decreases-is_plain_pair : goal.decreases-is_plain_pair
decreases-is_plain_pair l = 4 * fields_size (plain_fields l.fields.now) + 3

abbrev pub decreases-is_plain_first : goal.decreases-is_plain_first
decreases-is_plain_first l = 4 * fields_size (plain_fields l.fields.now) + 3

-- what is asked is whether the properties that are left are plain
abbrev pub invariant-are_plain-loop-property : goal.invariant-are_plain-loop-property
invariant-are_plain-loop-property l = are_plain (trees (drop l.property-index l.properties)) ≡ are_plain (trees l.properties)
