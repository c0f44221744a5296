use Rattle.std.proofs.Common.{◌≡◌, List, ◌++◌, take}
use Rattle.serde_json.specs.View.{items_view, members_view}
use Rattle.serde_json.specs.Data.{items_depth, members_depth}
use Rattle.serde_json.proofs.Views.{Entry}
use Rattle.es_tree.specs.Capped.{capped}
use Rattle.es_json.proofs.limits.+depth.Given as goal

abbrev pub invariant-items_depth-loop-item : goal.invariant-items_depth-loop-item
invariant-items_depth-loop-item l = l.deepest ≡ capped (items_depth (items_view (take l.item-index l.item-items)))

abbrev pub invariant-members_depth-loop-key : goal.invariant-members_depth-loop-key
invariant-members_depth-loop-key l =
    (done : List Entry) × (l.members.entries ≡ done ++ l._key-iterator) × (l.deepest ≡ capped (members_depth (members_view done)))
