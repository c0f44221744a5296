use Rattle.std.proofs.Common.{◌≡◌, drop}
use Rattle.es_tree.specs.Tree.{trees}
use Rattle.es_tree.specs.Views.{plain_fields}
use Rattle.es_super_calls.specs.SuperCalls.{calls_super_among, calls_super_in}
use Rattle.es_super_calls.proofs.calls.+calls.Given as goal

-- what is asked is whether one stands in the fields that are left
abbrev pub invariant-calls_super_in-loop-field : goal.invariant-calls_super_in-loop-field
invariant-calls_super_in-loop-field l = calls_super_in (plain_fields (drop l.field-index l.fields)) ≡ calls_super_in (plain_fields l.fields)

-- and in the nodes that are left
abbrev pub invariant-calls_super_by-loop-node : goal.invariant-calls_super_by-loop-node
invariant-calls_super_by-loop-node l = calls_super_among (trees (drop l.node-index l.node-items)) ≡ calls_super_among (trees l.node-items)
