use Rattle.std.proofs.Common.{◌+◌, ◌*◌, ◌≡◌, length}
use Rattle.es_tree.specs.Tree.{field_size, fields_size, tree_size, trees, trees_size}
use Rattle.es_tree.specs.Views.{plain_field, plain_fields}
use Rattle.es_traverse.proofs.KeptParts.{Untouched}
use Rattle.lower_nodes.specs.Nodes.{AlikeAmong, AlikeIn, Paid, owed_among, owed_in}
use Rattle.lower_temporaries.specs.Takings.{moment_of}
use Rattle.lower_node_walk.proofs.Seen.{FieldsSeen, TreesSeen}
use Rattle.lower_node_walk.proofs.walk.+walk.Given as goal

-- each call goes to a smaller part, or to one of the same size at a lower rank
abbrev pub decreases-walk_node : goal.decreases-walk_node
decreases-walk_node g l = 4 * tree_size l.node.now

abbrev pub decreases-walk_list : goal.decreases-walk_list
decreases-walk_list g l = 4 * trees_size (trees l.nodes.now.items) + 1

abbrev pub decreases-walk_field : goal.decreases-walk_field
decreases-walk_field g l = 4 * field_size (plain_field l.field.now) + 2

abbrev pub decreases-walk_fields : goal.decreases-walk_fields
decreases-walk_fields g l = 4 * fields_size (plain_fields l.fields.now.items) + 3

abbrev pub invariant-walk_list-loop-index : goal.invariant-walk_list-loop-index
invariant-walk_list-loop-index g l = record {
  count : length l.nodes.items ≡ length l.initial.nodes.items;
  untouched : Untouched l.initial.nodes.items l.nodes.items l.index;
  paid : Paid (moment_of l.initial.ctx) (owed_among (g.T.NodeLowering.profile l.initial.ctx.options).owes (trees l.initial.nodes.items)) (trees_size (trees l.initial.nodes.items)) (moment_of l.ctx) (owed_among (g.T.NodeLowering.profile l.initial.ctx.options).owes (trees l.nodes.items)) (trees_size (trees l.nodes.items));
  alike : AlikeAmong (g.T.NodeLowering.profile l.initial.ctx.options).changes (trees l.initial.nodes.items) (trees l.nodes.items);
  seen : TreesSeen (g.T.NodeLowering.profile l.initial.ctx.options) (moment_of l.initial.ctx) l.initial.nodes.items (moment_of l.ctx) l.nodes.items l.index;
}

abbrev pub invariant-walk_fields-loop-index : goal.invariant-walk_fields-loop-index
invariant-walk_fields-loop-index g l = record {
  count : length l.fields.items ≡ length l.initial.fields.items;
  untouched : Untouched l.initial.fields.items l.fields.items l.index;
  paid : Paid (moment_of l.initial.ctx) (owed_in (g.T.NodeLowering.profile l.initial.ctx.options).owes (plain_fields l.initial.fields.items)) (fields_size (plain_fields l.initial.fields.items)) (moment_of l.ctx) (owed_in (g.T.NodeLowering.profile l.initial.ctx.options).owes (plain_fields l.fields.items)) (fields_size (plain_fields l.fields.items));
  alike : AlikeIn (g.T.NodeLowering.profile l.initial.ctx.options).changes (plain_fields l.initial.fields.items) (plain_fields l.fields.items);
  seen : FieldsSeen (g.T.NodeLowering.profile l.initial.ctx.options) (moment_of l.initial.ctx) l.initial.fields.items (moment_of l.ctx) l.fields.items l.index;
}
