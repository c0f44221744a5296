use Rattle.std.proofs.Common.{◌≡◌, ◌+◌, ◌*◌, drop}
use Rattle.es_tree.specs.Tree.{field_size, fields_size, tree_size, trees, trees_size}
use Rattle.es_tree.specs.Views.{plain_field, plain_fields}
use Rattle.es_rest_shapes.specs.RestShapes.{bears_among}
use Rattle.es_rest_nodes.proofs.patterns.+bearing.Given as goal

-- each call goes to a smaller part, or to one of the same size at a lower rank
abbrev pub decreases-bears_rest : goal.decreases-bears_rest
decreases-bears_rest l = 4 * tree_size l.node.now

abbrev pub decreases-bears_among : goal.decreases-bears_among
decreases-bears_among l = 4 * trees_size (trees l.nodes.now) + 1

abbrev pub decreases-bears_by : goal.decreases-bears_by
decreases-bears_by l = 4 * field_size (plain_field l.field.now) + 2

abbrev pub decreases-bears_first : goal.decreases-bears_first
decreases-bears_first l = 4 * fields_size (plain_fields l.fields.now) + 3

abbrev pub decreases-bears_second : goal.decreases-bears_second
decreases-bears_second l = 4 * fields_size (plain_fields l.fields.now) + 3

-- what is asked is whether one of the nodes that are left bears one
abbrev pub invariant-bears_among-loop-node : goal.invariant-bears_among-loop-node
invariant-bears_among-loop-node l = bears_among (trees (drop l.node-index l.nodes)) ≡ bears_among (trees l.nodes)
