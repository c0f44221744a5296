use Rattle.std.proofs.Common.{◌∙◌, refl, sym}
use Rattle.es_tree.specs.Tree.{trees}
use Rattle.es_nodes.proofs.Anys.{any_passes, none_more}
use Rattle.lower_object_spread.specs.Literals.{any_lacks_argument, lacks_argument}
use Rattle.lower_object_spread.proofs.constructs.any_lacks_argument.Goals as goal

pub returns-then-lacks_argument : goal.returns-then-lacks_argument
returns-then-lacks_argument c =
    sym (any_passes (λ ts. any_lacks_argument (trees ts)) lacks_argument refl (λ t ts. refl) c.args.properties.now c.loop-property.property-index c.property-item.result c.loop-property-test.true c.property-item.is (sym c.lacks_argument.ensures ∙ c.if-lacks_argument.true))

pub loop-property-preserved : goal.loop-property-preserved
loop-property-preserved c =
    none_more (λ ts. any_lacks_argument (trees ts)) lacks_argument refl (λ t ts. refl) c.args.properties.now c.loop-property.property-index c.property-item.result c.loop-property-test.true c.property-item.is c.loop-property.invariant (sym c.lacks_argument.ensures ∙ c.if-lacks_argument.false)
