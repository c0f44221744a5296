use Rattle.std.proofs.Common.{◌≡◌, List, ◌++◌, take}
use Rattle.serde_json.specs.View.{items_view, members_view}
use Rattle.serde_json.proofs.Views.{Entry}
use Rattle.es_tree.specs.Capped.{capped}
use Rattle.es_json.specs.Limits.{items_objects, members_objects}
use Rattle.es_json.proofs.limits.+objects.Given as goal

abbrev pub invariant-items_objects-loop-item : goal.invariant-items_objects-loop-item
invariant-items_objects-loop-item l = l.count ≡ capped (items_objects (items_view (take l.item-index l.item-items)))

abbrev pub invariant-members_objects-loop-key : goal.invariant-members_objects-loop-key
invariant-members_objects-loop-key l =
    (done : List Entry) × (l.members.entries ≡ done ++ l._key-iterator) × (l.count ≡ capped (members_objects (members_view done)))
