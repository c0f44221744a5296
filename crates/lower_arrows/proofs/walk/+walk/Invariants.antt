use Rattle.std.proofs.Common.{◌+◌, ◌*◌, ◌≡◌, length}
use Rattle.es_tree.specs.Tree.{field_size, fields_size, tree_size, trees, trees_size}
use Rattle.es_tree.specs.Views.{plain_field, plain_fields}
use Rattle.es_runs.specs.Weights.{fields_weight, trees_weight}
use Rattle.es_traverse.proofs.KeptParts.{Untouched}
use Rattle.lower_temporaries.specs.Takings.{moment_of}
use Rattle.lower_arrows.specs.Names.{IsName, name_in}
use Rattle.lower_arrows.specs.Walks.{Paid, may_belong}
use Rattle.lower_arrows.proofs.Seen.{FieldsSeen, TreesSeen}
use Rattle.lower_arrows.proofs.walk.+walk.Given as goal

-- each call goes to a smaller part, or to one of the same size at a lower rank
abbrev pub decreases-walk_node : goal.decreases-walk_node
decreases-walk_node l = 5 * tree_size l.node.now

abbrev pub decreases-walk_nodes : goal.decreases-walk_nodes
decreases-walk_nodes l = 5 * trees_size (trees l.nodes.now.items) + 1

abbrev pub decreases-lower_list : goal.decreases-lower_list
decreases-lower_list l = 5 * trees_size (trees l.statements.now.items) + 2

abbrev pub decreases-walk_field : goal.decreases-walk_field
decreases-walk_field l = 5 * field_size (plain_field l.field.now) + 3

abbrev pub decreases-walk_fields : goal.decreases-walk_fields
decreases-walk_fields l = 5 * fields_size (plain_fields l.fields.now.items) + 4

abbrev pub invariant-walk_nodes-loop-index : goal.invariant-walk_nodes-loop-index
invariant-walk_nodes-loop-index l = record {
  named : IsName l.target.name;
  count : length l.nodes.items ≡ length l.initial.nodes.items;
  untouched : Untouched l.initial.nodes.items l.nodes.items l.index;
  paid : Paid l.belongs (moment_of l.initial.ctx) l.initial.target.name (trees_weight (trees l.initial.nodes.items)) (trees_size (trees l.initial.nodes.items)) (moment_of l.ctx) l.target.name (trees_weight (trees l.nodes.items)) (trees_size (trees l.nodes.items));
  seen : TreesSeen l.belongs (moment_of l.initial.ctx) (name_in l.initial.target.name) l.initial.nodes.items (moment_of l.ctx) (name_in l.target.name) l.nodes.items l.index;
}

abbrev pub invariant-walk_fields-loop-index : goal.invariant-walk_fields-loop-index
invariant-walk_fields-loop-index l = record {
  named : IsName l.target.name;
  count : length l.fields.items ≡ length l.initial.fields.items;
  untouched : Untouched l.initial.fields.items l.fields.items l.index;
  paid : Paid (may_belong l.parent.belongs l.parent.kind) (moment_of l.initial.ctx) l.initial.target.name (fields_weight (plain_fields l.initial.fields.items)) (fields_size (plain_fields l.initial.fields.items)) (moment_of l.ctx) l.target.name (fields_weight (plain_fields l.fields.items)) (fields_size (plain_fields l.fields.items));
  seen : FieldsSeen l.parent.belongs l.parent.kind (moment_of l.initial.ctx) (name_in l.initial.target.name) l.initial.fields.items (moment_of l.ctx) (name_in l.target.name) l.fields.items l.index;
}
