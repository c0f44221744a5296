use Rattle.std.proofs.Common.{◌≡◌, false, take}
use Rattle.es_tree.specs.StaticRules.{any_has_node}
use Rattle.es_tree.specs.Views.{plain_fields}
use Rattle.es_static_rules.proofs.modules.any_has_node.Given as goal

abbrev pub invariant-loop-field : goal.invariant-loop-field
invariant-loop-field l = any_has_node (plain_fields (take l.field-index l.fields)) ≡ false
