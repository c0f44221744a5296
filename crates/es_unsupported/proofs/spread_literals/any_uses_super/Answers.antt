use Rattle.std.proofs.Common.{refl, sym}
use Rattle.es_tree.specs.Tree.{trees}
use Rattle.es_nodes.proofs.Anys.{any_passes, none_more}
use Rattle.es_unsupported.specs.SpreadLiterals.{any_among, uses_super}
use Rattle.es_unsupported.proofs.spread_literals.any_uses_super.Goals as goal

pub returns-then-uses_super : goal.returns-then-uses_super
returns-then-uses_super c =
    sym (any_passes (λ ts. any_among uses_super (trees ts)) uses_super refl (λ t ts. refl)
    c.args.properties.now c.loop-property.property-index c.property-item.result c.loop-property-test.true c.property-item.is (sym c.if-uses_super.ensures))

pub loop-property-preserved : goal.loop-property-preserved
loop-property-preserved c =
    none_more (λ ts. any_among uses_super (trees ts)) uses_super refl (λ t ts. refl)
    c.args.properties.now c.loop-property.property-index c.property-item.result c.loop-property-test.true c.property-item.is c.loop-property.invariant (sym c.if-uses_super.ensures)
