use Rattle.std.proofs.Common.{◌≡◌, false, map, take}
use Rattle.es_tree.specs.Tree.{fields, trees}
use Rattle.es_tree.specs.Views.{plain_field}
use Rattle.es_unsupported.specs.SpreadLiterals.{holds_super_among, holds_super_in}
use Rattle.es_unsupported.proofs.spread_literals.+holds.Given as goal

-- none stands in the nodes so far
abbrev pub invariant-holds_super_by-loop-node : goal.invariant-holds_super_by-loop-node
invariant-holds_super_by-loop-node l = holds_super_among (trees (take l.node-index l.node-items)) ≡ false

-- none in the fields so far
abbrev pub invariant-holds_super_in-loop-field : goal.invariant-holds_super_in-loop-field
invariant-holds_super_in-loop-field l = holds_super_in (fields (map plain_field (take l.field-index l.fields))) ≡ false
