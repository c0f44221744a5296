use Rattle.std.proofs.Common.{not, refl, sym, ap, ◌∙◌}
use Rattle.es_tree.specs.StaticRules.{binds_name, has_pattern}
use Rattle.es_tree.specs.Tree.{trees}
use Rattle.es_nodes.proofs.Anys.{any_passes, none_more}
use Rattle.es_static_rules.proofs.declarations.has_pattern.Goals as goal

pub returns-then-not-binds_name : goal.returns-then-not-binds_name
returns-then-not-binds_name c =
    sym (any_passes (λ ds. has_pattern (trees ds)) (λ d. not (binds_name d)) refl (λ d ds. refl)
    c.args.declarators.now c.loop-declarator.declarator-index c.declarator-item.result c.loop-declarator-test.true c.declarator-item.is (ap not (sym c.binds_name.ensures ∙ c.if-not-binds_name.true)))

pub loop-declarator-preserved : goal.loop-declarator-preserved
loop-declarator-preserved c =
    none_more (λ ds. has_pattern (trees ds)) (λ d. not (binds_name d)) refl (λ d ds. refl)
    c.args.declarators.now c.loop-declarator.declarator-index c.declarator-item.result c.loop-declarator-test.true c.declarator-item.is c.loop-declarator.invariant (ap not (sym c.binds_name.ensures ∙ c.if-not-binds_name.false))
