use Rattle.std.proofs.Common.{◌≡◌, take}
use Rattle.es_tree.specs.Tree.{trees}
use Rattle.es_tree.specs.Views.{plain_fields}
use Rattle.es_helper_calls.specs.HelperCalls.{helpers_among, helpers_in_fields, noted}
use Rattle.lower_helper_imports.proofs.calls.+note.Given as goal

-- the helpers of the fields so far are noted
abbrev pub invariant-note_in-loop-field : goal.invariant-note_in-loop-field
invariant-note_in-loop-field l = l.known.items ≡ noted l.initial.known.items (helpers_in_fields (plain_fields (take l.field-index l.field-items)))

-- those of the nodes so far are
abbrev pub invariant-note_in_field-loop-node : goal.invariant-note_in_field-loop-node
invariant-note_in_field-loop-node l = l.known.items ≡ noted l.initial.known.items (helpers_among (trees (take l.node-index l.node-items)))
