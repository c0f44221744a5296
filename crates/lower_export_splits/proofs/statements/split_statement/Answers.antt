use Rattle.std.proofs.Common.{◌∙◌, ap, false, sym, true}
use Rattle.es_tree.specs.Tree.{trees}
use Rattle.es_steps.specs.Nodes.{joined_trees}
use Rattle.es_export_splits.specs.Splits.{plainly}
use Rattle.lower_export_splits.proofs.Lists.{joined-push, one-split, pushed-twice}
use Rattle.lower_export_splits.proofs.statements.split_statement.Goals as goal

pub returns-then-not-is_split : goal.returns-then-not-is_split
returns-then-not-is_split c =
    let old = c.args.split.now.items in
    let t = c.args.statement in
    ap trees c.in_ok-push.ensures.items ∙ (joined-push old t ∙ ap (joined_trees (trees old)) (sym (one-split plainly t false (sym c.is_split.ensures ∙ c.if-not-is_split.true))))

pub returns : goal.returns
returns c =
    let old = c.args.split.now.items in
    let t = c.args.statement in
    pushed-twice old c.push-2.new.self.items c.push-3.new.self.items c.in_ok-declaration.declaration c.in_ok-declaration.export c.in_ok-push-2.ensures.items c.in_ok-push-3.ensures.items
    ∙ ap (joined_trees (trees old)) (sym (one-split plainly t true (sym c.is_split.ensures ∙ c.if-not-is_split.false) ∙ c.in_ok-declaration.ensures))
