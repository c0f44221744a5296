use Rattle.std.proofs.Common.{◌+◌, ◌*◌}
use Rattle.es_tree.specs.Fresh.{is_among}
use Rattle.es_tree.specs.Tree.{field_size, fields_size, tree_size, trees, trees_size}
use Rattle.es_tree.specs.Views.{plain_field, plain_fields}
use Rattle.es_scope.specs.Contexts.{made_of}
use Rattle.lower_constructor_this.specs.Parts.{standing_at}
use Rattle.lower_constructor_this.proofs.Walked.{FieldsSoFar, ListSoFar}
use Rattle.lower_constructor_this.proofs.walk.+walk.Given as goal

-- each call goes to a smaller part, or to one of the same size at a lower rank
abbrev pub decreases-walk_node : goal.decreases-walk_node
decreases-walk_node g l = 4 * tree_size l.node.now

abbrev pub decreases-walk_list : goal.decreases-walk_list
decreases-walk_list g l = 4 * trees_size (trees l.nodes.now.items) + 1

abbrev pub decreases-walk_field : goal.decreases-walk_field
decreases-walk_field g l = 4 * field_size (plain_field l.field.now) + 2

abbrev pub decreases-walk_fields : goal.decreases-walk_fields
decreases-walk_fields g l = 4 * fields_size (plain_fields l.fields.now.items) + 3

abbrev pub invariant-walk_list-loop-index : goal.invariant-walk_list-loop-index
invariant-walk_list-loop-index g l = ListSoFar (is_among (made_of l.fn.ctx)) l.fn.standing l.initial.nodes.items l.nodes.items l.index

abbrev pub invariant-walk_fields-loop-index : goal.invariant-walk_fields-loop-index
invariant-walk_fields-loop-index g l = FieldsSoFar (is_among (made_of l.fn.ctx)) (standing_at l.fn.standings) l.initial.fields.items l.fields.items l.index
