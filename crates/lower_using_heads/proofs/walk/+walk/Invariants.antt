use Rattle.std.proofs.Common.{◌+◌, ◌*◌}
use Rattle.es_tree.specs.Tree.{field_size, fields_size, tree_size, trees, trees_size}
use Rattle.es_tree.specs.Views.{plain_field, plain_fields}
use Rattle.lower_fresh_names.proofs.Along.{SoFar}
use Rattle.lower_using_heads.proofs.HeadWalks.{fields, lists}
use Rattle.lower_using_heads.proofs.walk.+walk.Given as goal

-- each call goes to a smaller part, or to one of the same size at a lower rank
abbrev pub decreases-walk_node : goal.decreases-walk_node
decreases-walk_node l = 4 * tree_size l.node.now

abbrev pub decreases-walk_list : goal.decreases-walk_list
decreases-walk_list l = 4 * trees_size (trees l.nodes.now.items) + 1

abbrev pub decreases-walk_field : goal.decreases-walk_field
decreases-walk_field l = 4 * field_size (plain_field l.field.now) + 2

abbrev pub decreases-walk_fields : goal.decreases-walk_fields
decreases-walk_fields l = 4 * fields_size (plain_fields l.fields.now.items) + 3

abbrev pub invariant-walk_list-loop-index : goal.invariant-walk_list-loop-index
invariant-walk_list-loop-index l = SoFar lists l.initial.uids l.uids l.initial.nodes.items l.nodes.items l.index

abbrev pub invariant-walk_fields-loop-index : goal.invariant-walk_fields-loop-index
invariant-walk_fields-loop-index l = SoFar fields l.initial.uids l.uids l.initial.fields.items l.fields.items l.index
