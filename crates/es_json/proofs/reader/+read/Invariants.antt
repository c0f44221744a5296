use Rattle.std.proofs.Common.{◌≡◌, ◌+◌, ◌*◌, List, ◌++◌, take, drop, filter, map, Some}
use Rattle.serde_json.specs.Data.{depth}
use Rattle.serde_json.specs.View.{view, items_view}
use Rattle.es_tree.specs.Attributes.{is_text, is_flag, is_child}
use Rattle.es_tree.specs.Texts.{plain_texts}
use Rattle.es_tree.specs.Tree.{Tree, Field, fields, trees}
use Rattle.es_tree.specs.Views.{plain_field, plain_fields}
use Rattle.es_json.specs.Values.{TextsAre, FlagsAre}
use Rattle.es_json.specs.Form.{AreItems, AreElements, AreFields}
use Rattle.es_json.specs.Faults.{unless_null, items_faults, fields_faults, faults}
use Rattle.es_json.specs.New.{AreNewFields, AreNewTrees}
use Rattle.es_json.proofs.reader.+read.Given as goal

abbrev pub decreases-read_node : goal.decreases-read_node
decreases-read_node l = 7 * depth (view l.value.now) + 5

abbrev pub decreases-read_parts : goal.decreases-read_parts
decreases-read_parts l = 7 * depth (view l.value.now) + 4

abbrev pub decreases-read_array : goal.decreases-read_array
decreases-read_array l = 7 * depth (view l.value.now) + 3

abbrev pub decreases-read_fields : goal.decreases-read_fields
decreases-read_fields l = 7 * depth (view l.value.now) + 3

abbrev pub decreases-read_field : goal.decreases-read_field
decreases-read_field l = 7 * depth (view l.value.now) + 2

abbrev pub decreases-read_child : goal.decreases-read_child
decreases-read_child l = 7 * depth (view l.value.now) + 1

abbrev pub decreases-read_list : goal.decreases-read_list
decreases-read_list l = 7 * depth (view l.value.now)

abbrev pub decreases-read_elements : goal.decreases-read_elements
decreases-read_elements l = 7 * depth (view l.value.now)

abbrev pub decreases-read_element : goal.decreases-read_element
decreases-read_element l = 7 * depth (view l.element.now) + 6

abbrev pub invariant-read_elements-loop-i : goal.invariant-read_elements-loop-i
invariant-read_elements-loop-i l = record {
  form : (fs : List Field) → AreElements l.place.sort l.place.last (Some (items_view (drop l.i l.elements))) (fields fs) → AreElements l.place.sort l.place.last (Some (items_view l.elements)) (fields (map plain_field l.fields.items ++ fs));
  none : items_faults (unless_null faults) l.place.sort l.place.last 0 (items_view l.elements) ≡ items_faults (unless_null faults) l.place.sort l.place.last l.i (items_view (drop l.i l.elements));
  new : AreNewFields l.fn.ast.next l.ast.next (plain_fields l.fields.items);
}

abbrev pub invariant-read_fields-loop-entry : goal.invariant-read_fields-loop-entry
invariant-read_fields-loop-entry l = record {
  texts : TextsAre (filter is_text (take l.entry-index l.entry-items)) (view l.value) (plain_texts l.texts.items);
  flags : FlagsAre (filter is_flag (take l.entry-index l.entry-items)) (view l.value) l.flags.items;
  none : fields_faults faults l.ast_type (view l.value) l.entry-items ≡ fields_faults faults l.ast_type (view l.value) (drop l.entry-index l.entry-items);
  children : AreFields (view l.value) (filter is_child (take l.entry-index l.entry-items)) (plain_fields l.fields.items);
  new : AreNewFields l.fn.ast.next l.ast.next (plain_fields l.fields.items);
}

abbrev pub invariant-read_list-loop-i : goal.invariant-read_list-loop-i
invariant-read_list-loop-i l = record {
  form : (ts : List Tree) → AreItems l.sort l.last (Some (items_view (drop l.i l.items))) (trees ts) → AreItems l.sort l.last (Some (items_view l.items)) (trees (l.nodes.items ++ ts));
  none : items_faults faults l.sort l.last 0 (items_view l.items) ≡ items_faults faults l.sort l.last l.i (items_view (drop l.i l.items));
  new : AreNewTrees l.fn.ast.next l.ast.next (trees l.nodes.items);
}
