use Rattle.std.proofs.Common.{◌∙◌, ap, false, sym, true}
use Rattle.es_tree.specs.Tree.{empty, trees, ◌before◌}
use Rattle.es_steps.specs.Nodes.{joined_trees}
use Rattle.es_steps.proofs.Lists.{joined-empty}
use Rattle.lower_export_splits.proofs.Lists.{joined-push}
use Rattle.lower_using_modules.specs.Parts.{making}
use Rattle.lower_using_modules.proofs.PartedLists.{one-inside, one-outside}
use Rattle.lower_using_modules.proofs.lists.part_statement.Goals as goal

pub returns-then-stays_outside-clause-outside : goal.returns-then-stays_outside-clause-outside
returns-then-stays_outside-clause-outside c =
    let old = c.args.left.now.items in
    let t = c.args.statement in
    ap trees c.in_ok-push.ensures.items ∙ (joined-push old t ∙ ap (joined_trees (trees old)) (sym (one-outside (making c.args.default.now c.args.context.now) t true (sym c.stays_outside.ensures ∙ c.if-stays_outside.true))))

pub returns-then-stays_outside-clause-inside : goal.returns-then-stays_outside-clause-inside
returns-then-stays_outside-clause-inside c =
    let old = trees c.args.moved.now.items in
    sym (ap (joined_trees old) (one-inside (making c.args.default.now c.args.context.now) c.args.statement true (sym c.stays_outside.ensures ∙ c.if-stays_outside.true)) ∙ joined-empty old)

pub returns-clause-inside : goal.returns-clause-inside
returns-clause-inside c =
    let old = c.args.moved.now.items in
    let t = c.args.statement in
    ap trees c.in_ok-push-2.ensures.items ∙ (joined-push old c.in_ok-inside.inside ∙ ap (joined_trees (trees old)) (ap (λ y. y before empty) c.in_ok-inside.ensures ∙ sym (one-inside (making c.args.default.now c.args.context.now) t false (sym c.stays_outside.ensures ∙ c.if-stays_outside.false))))
