use Rattle.std.proofs.Common.{refl, sym, ◌∙◌}
use Rattle.es_tree.specs.Tree.{trees}
use Rattle.es_nodes.proofs.Anys.{any_passes, none_more}
use Rattle.es_rest_shapes.specs.RestShapes.{any_tree}
use Rattle.lower_object_rest.specs.Shapes.{is_lowerable}
use Rattle.lower_object_rest.proofs.patterns.any_lowerable.Goals as goal

pub returns-then-is_lowerable : goal.returns-then-is_lowerable
returns-then-is_lowerable c =
    sym (any_passes (λ ts. any_tree is_lowerable (trees ts)) is_lowerable refl (λ t ts. refl) c.args.declarators.now c.loop-declarator.declarator-index c.declarator-item.result c.loop-declarator-test.true c.declarator-item.is (sym c.is_lowerable.ensures ∙ c.if-is_lowerable.true))

pub loop-declarator-preserved : goal.loop-declarator-preserved
loop-declarator-preserved c =
    none_more (λ ts. any_tree is_lowerable (trees ts)) is_lowerable refl (λ t ts. refl) c.args.declarators.now c.loop-declarator.declarator-index c.declarator-item.result c.loop-declarator-test.true c.declarator-item.is c.loop-declarator.invariant (sym c.is_lowerable.ensures ∙ c.if-is_lowerable.false)
