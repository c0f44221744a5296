use Rattle.std.proofs.Common.{◌+◌, ◌*◌}
use Rattle.es_tree.specs.Tree.{field_size, fields_size, tree_size, trees, trees_size}
use Rattle.es_tree.specs.Views.{plain_field, plain_fields}
use Rattle.es_helper_calls.specs.HelperCalls.{calling, calling_by}
use Rattle.lower_helper_imports.specs.Parts.{callee_of}
use Rattle.lower_helper_imports.proofs.Walked.{Changed}
use Rattle.lower_helper_imports.proofs.calls.+call.Given as goal

-- each call goes to a smaller part, or to one of the same size at a lower rank
abbrev pub decreases-call_by_names : goal.decreases-call_by_names
decreases-call_by_names l = 4 * tree_size l.node.now

abbrev pub decreases-call_in_list : goal.decreases-call_in_list
decreases-call_in_list l = 4 * trees_size (trees l.nodes.now.items) + 1

abbrev pub decreases-call_in_field : goal.decreases-call_in_field
decreases-call_in_field l = 4 * field_size (plain_field l.field.now) + 2

abbrev pub decreases-call_in_fields : goal.decreases-call_in_fields
decreases-call_in_fields l = 4 * fields_size (plain_fields l.fields.now.items) + 3

abbrev pub invariant-call_in_list-loop-index : goal.invariant-call_in_list-loop-index
invariant-call_in_list-loop-index l = Changed (λ t. t) (calling (callee_of l.helpers l.names)) l.initial.nodes.items l.nodes.items l.index

abbrev pub invariant-call_in_fields-loop-index : goal.invariant-call_in_fields-loop-index
invariant-call_in_fields-loop-index l = Changed plain_field (calling_by (callee_of l.helpers l.names)) l.initial.fields.items l.fields.items l.index
