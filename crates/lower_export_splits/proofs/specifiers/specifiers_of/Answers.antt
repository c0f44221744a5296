use Rattle.es_export_splits.specs.Splits.{plainly}
use Rattle.lower_export_splits.proofs.Lists.{declarators-next}
use Rattle.lower_export_splits.proofs.specifiers.specifiers_of.Goals as goal

pub loop-declarator-preserved : goal.loop-declarator-preserved
loop-declarator-preserved c =
    declarators-next plainly c.loop-declarator.made.items c.add_of_declarator.new.made.items c.declarators_of-declarator-items.result.now c.loop-declarator.declarator-index c.declarator-item.result c.loop-declarator-test.true c.declarator-item.is c.loop-declarator.invariant c.in_ok-add_of_declarator.ensures
