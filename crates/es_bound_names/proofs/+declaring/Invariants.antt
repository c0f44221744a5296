use Rattle.std.proofs.Common.{◌≡◌, false, take}
use Rattle.es_tree.specs.Heads.{head_of}
use Rattle.es_tree.specs.Tree.{trees}
use Rattle.es_bound_names.specs.BoundNames.{declares_among, declares_at}
use Rattle.es_bound_names.proofs.FieldsInTurn.{declares_of}
use Rattle.es_bound_names.proofs.+declaring.Given as goal

-- none of the fields so far declares it
abbrev pub invariant-declares-loop-index : goal.invariant-declares-loop-index
invariant-declares-loop-index l = declares_of l.name (declares_at l.declared (head_of l.node-inside.kind).kind) (take l.index l.field-items) ≡ false

-- none of the nodes so far does
abbrev pub invariant-declares_by-loop-node : goal.invariant-declares_by-loop-node
invariant-declares_by-loop-node l = declares_among l.name l.declared (trees (take l.node-index l.node-items)) ≡ false
