use Rattle.std.proofs.Common.{refl, sym}
use Rattle.es_tree.specs.Tree.{trees}
use Rattle.es_nodes.proofs.Anys.{any_passes, none_more}
use Rattle.es_unsupported.specs.SpreadLiterals.{any_among, sets_prototype}
use Rattle.es_unsupported.proofs.spread_literals.any_sets_prototype.Goals as goal

pub returns-then-sets_prototype : goal.returns-then-sets_prototype
returns-then-sets_prototype c =
    sym (any_passes (λ ts. any_among sets_prototype (trees ts)) sets_prototype refl (λ t ts. refl)
    c.args.properties.now c.loop-property.property-index c.property-item.result c.loop-property-test.true c.property-item.is (sym c.if-sets_prototype.ensures))

pub loop-property-preserved : goal.loop-property-preserved
loop-property-preserved c =
    none_more (λ ts. any_among sets_prototype (trees ts)) sets_prototype refl (λ t ts. refl)
    c.args.properties.now c.loop-property.property-index c.property-item.result c.loop-property-test.true c.property-item.is c.loop-property.invariant (sym c.if-sets_prototype.ensures)
