use Rattle.std.proofs.Common.{◌≡◌, ◌≤◌, map, drop}
use Rattle.es_tree.specs.Heads.{head_of}
use Rattle.es_tree.specs.Tree.{kind_of, label_of}
use Rattle.es_json.specs.Canonical.{put_entries, rest, common_members}
use Rattle.serde_json.specs.View.{view, members_view}
use Rattle.es_json.proofs.writer.write_members.Given as goal

abbrev pub invariant-loop-entry : goal.invariant-loop-entry
invariant-loop-entry l = record {
  texts_before : l.texts ≤ l.entry-index;
  flags_before : l.flags ≤ l.entry-index;
  left :
      put_entries (drop l.entry-index l.entry-items)
      (rest (drop l.texts (head_of l.kind).texts) (drop l.flags (head_of l.kind).flags) (map view l.children.rest.items) (members_view l.members.entries))
      ≡ put_entries l.entry-items
      (rest (head_of l.kind).texts (head_of l.kind).flags (map view l.fn.children.items) (common_members (kind_of l.fn.node) (label_of l.fn.node)));
}
