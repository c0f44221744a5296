use Rattle.std.proofs.Common.{refl, sym}
use Rattle.es_tree.specs.StaticRules.{any_has_node, has_node}
use Rattle.es_tree.specs.Views.{plain_field, plain_fields}
use Rattle.es_nodes.proofs.Anys.{any_passes, none_more}
use Rattle.es_static_rules.proofs.modules.any_has_node.Goals as goal

pub returns-then-has_node : goal.returns-then-has_node
returns-then-has_node c =
    sym (any_passes (λ fs. any_has_node (plain_fields fs)) (λ f. has_node (plain_field f)) refl (λ f fs. refl)
    c.args.fields.now c.loop-field.field-index c.field-item.result c.loop-field-test.true c.field-item.is (sym c.if-has_node.ensures))

pub loop-field-preserved : goal.loop-field-preserved
loop-field-preserved c =
    none_more (λ fs. any_has_node (plain_fields fs)) (λ f. has_node (plain_field f)) refl (λ f fs. refl)
    c.args.fields.now c.loop-field.field-index c.field-item.result c.loop-field-test.true c.field-item.is c.loop-field.invariant (sym c.if-has_node.ensures)
