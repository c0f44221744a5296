use Rattle.std.proofs.Common.{◌+◌, ◌*◌}
use Rattle.es_tree.specs.Tree.{field_size, fields_size, tree_size, trees, trees_size}
use Rattle.es_tree.specs.Views.{plain_field, plain_fields}
use Rattle.es_excluded_keys.specs.ExcludedKeys.{is_below}
use Rattle.lower_excluded_keys.proofs.Lists.{FieldsSoFar, ListSoFar}
use Rattle.lower_excluded_keys.proofs.sharing.+share.Given as goal

-- each call goes to a smaller part, or to one of the same size at a lower rank
abbrev pub decreases-share_in : goal.decreases-share_in
decreases-share_in l = 4 * tree_size l.node.now

abbrev pub decreases-share_in_list : goal.decreases-share_in_list
decreases-share_in_list l = 4 * trees_size (trees l.nodes.now.items) + 1

abbrev pub decreases-share_in_arguments : goal.decreases-share_in_arguments
decreases-share_in_arguments l = 4 * trees_size (trees l.arguments.now.items) + 1

abbrev pub decreases-share_in_field : goal.decreases-share_in_field
decreases-share_in_field l = 4 * field_size (plain_field l.field.now) + 2

abbrev pub decreases-share_in_fields : goal.decreases-share_in_fields
decreases-share_in_fields l = 4 * fields_size (plain_fields l.fields.now.items) + 3

abbrev pub decreases-share_in_call : goal.decreases-share_in_call
decreases-share_in_call l = 4 * fields_size (plain_fields l.fields.now.items) + 3

abbrev pub invariant-share_in_list-loop-index : goal.invariant-share_in_list-loop-index
invariant-share_in_list-loop-index l = ListSoFar l.fn.deep l.initial.constants l.constants l.initial.nodes.items l.nodes.items l.index

abbrev pub invariant-share_in_fields-loop-index : goal.invariant-share_in_fields-loop-index
invariant-share_in_fields-loop-index l = FieldsSoFar (is_below l.fn.deep l.fn.kind) l.initial.constants l.constants l.initial.fields.items l.fields.items l.index
