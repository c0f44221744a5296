use Rattle.std.proofs.Common.{◌≡◌, ◌+◌, ◌*◌, map, drop}
use Rattle.es_tree.specs.Ancestors.{visits_in_fields, visits_in_trees}
use Rattle.es_tree.specs.Tree.{field_size, fields, fields_of, fields_size, tree_size, trees, trees_size, kind_of, label_of}
use Rattle.es_tree.specs.Views.{plain_field}
use Rattle.es_static_rules.specs.Outward.{outward}
use Rattle.es_static_rules.proofs.Walks.{Leads}
use Rattle.es_static_rules.proofs.static_rules.+walk.Given as goal

-- each call goes to a smaller part, or to one of the same size at a lower rank
abbrev pub decreases-check_node : goal.decreases-check_node
decreases-check_node l = 2 * tree_size l.node.now

abbrev pub decreases-check_field : goal.decreases-check_field
decreases-check_field l = 2 * field_size (plain_field l.field.now) + 1

-- what the nodes from here on answer, all of them answer
abbrev pub invariant-check_field-loop-node : goal.invariant-check_field-loop-node
invariant-check_field-loop-node l =
    let visits = visits_in_trees (outward l.initial.walk.ancestors.items) in
    record {
      checks : Leads l.pass.rules.now l.pass.all.now l.initial.walk.names l.walk.names (visits l.walk.next (trees (drop l.node-index l.node-items))) (visits l.initial.walk.next (trees l.node-items));
      ancestors : l.walk.ancestors.items ≡ l.initial.walk.ancestors.items;
      next : l.walk.next + trees_size (trees (drop l.node-index l.node-items)) ≡ l.initial.walk.next + trees_size (trees l.node-items);
    }

-- what the fields from here on answer, all of them answer
abbrev pub invariant-check_node-loop-index : goal.invariant-check_node-loop-index
invariant-check_node-loop-index l =
    let visits = visits_in_fields (outward l.initial.walk.ancestors.items) (kind_of l.node) (label_of l.node) (fields_of l.node) l.number in
    record {
      checks : Leads l.pass.rules.now l.pass.all.now l.initial.walk.names l.walk.names (visits l.index l.walk.next (fields (map plain_field (drop l.index l.field-items)))) (visits 0 l.initial.walk.next (fields (map plain_field l.field-items)));
      ancestors : l.walk.ancestors.items ≡ l.initial.walk.ancestors.items;
      next : l.walk.next + fields_size (fields (map plain_field (drop l.index l.field-items))) ≡ l.initial.walk.next + fields_size (fields (map plain_field l.field-items));
    }
