use Rattle.std.proofs.Common.{◌≡◌, false, take}
use Rattle.es_tree.specs.Heads.{head_of}
use Rattle.es_tree.specs.Tree.{trees}
use Rattle.es_steps.specs.Slots.{closes, holds_trees}
use Rattle.es_steps.specs.WrapRule.{is_wrapped_for}
use Rattle.es_slots.proofs.Searches.{holds_of}
use Rattle.es_slots.proofs.wrapped.+holds.Given as goal

-- none of the fields so far holds one
abbrev pub invariant-holds-loop-index : goal.invariant-holds-loop-index
invariant-holds-loop-index l = holds_of (is_wrapped_for l.options) (closes (head_of l.node-inside.kind).kind) (take l.index l.field-items) ≡ false

-- none of the trees so far does
abbrev pub invariant-holds_in-loop-node : goal.invariant-holds_in-loop-node
invariant-holds_in-loop-node l = holds_trees (is_wrapped_for l.options) (trees (take l.node-index l.node-items)) ≡ false
