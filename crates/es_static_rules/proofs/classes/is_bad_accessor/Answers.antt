use Rattle.std.proofs.Common.{refl}
use Rattle.es_static_rules.proofs.Accessors.{getter_method, getter_property}
use Rattle.es_static_rules.proofs.classes.is_bad_accessor.Goals as goal

pub returns-in-Get : goal.returns-in-Get
returns-in-Get c =
    getter_method c.args.node.now c.parameters_in.result.now c.is_empty.result
    (rw (← c.node.view_is, c.in-MethodDefinition.is) refl) (rw (← c.node.view_is, c.in-MethodDefinition.is, c.in-Get.is) refl) c.parameters_in.ensures c.is_empty.ensures

pub returns-in-Get-kind : goal.returns-in-Get-kind
returns-in-Get-kind c =
    getter_property c.args.node.now c.parameters_in-in-Get-kind.result.now c.is_empty-in-Get-kind.result
    (rw (← c.node.view_is, c.in-ObjectProperty.is) refl) (rw (← c.node.view_is, c.in-ObjectProperty.is, c.in-Get-kind.is) refl) c.parameters_in-in-Get-kind.ensures c.is_empty-in-Get-kind.ensures
