use Rattle.std.proofs.Common.{◌≡◌, ◌+◌, ◌*◌, drop, false, take}
use Rattle.es_tree.specs.Heads.{head_of, label}
use Rattle.es_tree.specs.Names.{is_name_place}
use Rattle.es_tree.specs.Tree.{field_size, fields_size, tree_size, trees, trees_size}
use Rattle.es_tree.specs.Views.{plain_field, plain_fields}
use Rattle.es_tree.specs.declared.ids.NodeId.{NodeId}
use Rattle.es_tree.specs.declared.ids.Span.{Span}
use Rattle.es_set_this.specs.ConstructorThis.{names_among, names_in}
use Rattle.lower_constructor_this.proofs.names.+names.Given as goal

-- each call goes to a smaller part, or to one of the same size at a lower rank
abbrev pub decreases-names_it : goal.decreases-names_it
decreases-names_it l = 4 * tree_size l.node.now

abbrev pub decreases-names_among : goal.decreases-names_among
decreases-names_among l = 4 * trees_size (trees l.nodes.now) + 1

abbrev pub decreases-names_by : goal.decreases-names_by
decreases-names_by l = 4 * field_size (plain_field l.field.now) + 2

abbrev pub decreases-names_in : goal.decreases-names_in
decreases-names_in l = 4 * fields_size (plain_fields l.fields.now) + 3

abbrev pub decreases-names_first : goal.decreases-names_first
decreases-names_first l = 4 * fields_size (plain_fields l.fields.now) + 3

-- what is asked is whether it stands in the nodes that are left
abbrev pub invariant-names_among-loop-node : goal.invariant-names_among-loop-node
invariant-names_among-loop-node l = names_among l.name (trees (drop l.node-index l.nodes)) ≡ names_among l.name (trees l.nodes)

-- it stands in none of the fields so far
abbrev pub invariant-names_in-loop-index : goal.invariant-names_in-loop-index
invariant-names_in-loop-index l =
    (id : NodeId) (span : Span) → names_in l.name (is_name_place (head_of l.kind).kind (label id span (head_of l.kind))) (plain_fields (take l.index l.fields)) ≡ false
