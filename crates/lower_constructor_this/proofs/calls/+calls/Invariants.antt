use Rattle.std.proofs.Common.{◌+◌, ◌*◌}
use Rattle.es_tree.specs.Tree.{field_size, fields_size, tree_size, trees, trees_size}
use Rattle.es_tree.specs.Views.{plain_field, plain_fields}
use Rattle.lower_fresh_names.specs.Names.{name_with}
use Rattle.lower_constructor_this.proofs.Passed.{FieldsPassed, ListPassed}
use Rattle.lower_constructor_this.proofs.calls.+calls.Given as goal

-- each call goes to a smaller part, or to one of the same size at a lower rank
abbrev pub decreases-walk_node : goal.decreases-walk_node
decreases-walk_node l = 8 * tree_size l.node.now + 1

abbrev pub decreases-walk_parts : goal.decreases-walk_parts
decreases-walk_parts l = 8 * tree_size l.node.now

abbrev pub decreases-walk_call : goal.decreases-walk_call
decreases-walk_call l = 8 * field_size (plain_field l.field.now) + 1

abbrev pub decreases-walk_arguments : goal.decreases-walk_arguments
decreases-walk_arguments l = 8 * tree_size l.statement.now

abbrev pub decreases-walk_first : goal.decreases-walk_first
decreases-walk_first l = 8 * trees_size (trees l.nodes.now.items) + 2

abbrev pub decreases-walk_nodes : goal.decreases-walk_nodes
decreases-walk_nodes l = 8 * trees_size (trees l.nodes.now.items) + 3

abbrev pub decreases-set_in_list : goal.decreases-set_in_list
decreases-set_in_list l = 8 * trees_size (trees l.statements.now.items) + 3

abbrev pub decreases-walk_field : goal.decreases-walk_field
decreases-walk_field l = 8 * field_size (plain_field l.field.now) + 4

abbrev pub decreases-walk_fields : goal.decreases-walk_fields
decreases-walk_fields l = 8 * fields_size (plain_fields l.fields.now.items) + 5

abbrev pub invariant-walk_first-loop-index : goal.invariant-walk_first-loop-index
invariant-walk_first-loop-index l = ListPassed (name_with 0 l.fn.name) l.initial.nodes.items l.nodes.items l.index

abbrev pub invariant-walk_fields-loop-index : goal.invariant-walk_fields-loop-index
invariant-walk_fields-loop-index l = FieldsPassed (name_with 0 l.fn.name) l.fn.lists l.initial.fields.items l.fields.items l.index
