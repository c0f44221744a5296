use Rattle.std.proofs.Common.{sym}
use Rattle.es_tree.specs.Tree.{trees}
use Rattle.es_steps.proofs.Lists.{joined-empty}
use Rattle.es_export_splits.specs.Splits.{plainly}
use Rattle.lower_export_splits.proofs.Lists.{specifiers-next}
use Rattle.lower_export_splits.proofs.specifiers.add_of_pattern.Goals as goal

pub loop-name-init : goal.loop-name-init
loop-name-init c = sym (joined-empty (trees c.args.made.now.items))

pub loop-name-preserved : goal.loop-name-preserved
loop-name-preserved c =
    specifiers-next plainly c.args.made.now.items c.loop-name.made.items c.push.new.self.items c.deref-name-items.result.now c.loop-name.name-index c.name-item.result c.in_ok-specifier.specifier c.loop-name-test.true c.name-item.is c.loop-name.invariant c.in_ok-specifier.ensures c.in_ok-push.ensures.items
