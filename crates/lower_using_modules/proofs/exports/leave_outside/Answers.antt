use Rattle.std.proofs.Common.{◌∙◌, ap, sym}
use Rattle.std.specs.Prelude.{None}
use Rattle.es_tree.specs.Tree.{empty, label_of, trees, ◌before◌}
use Rattle.es_steps.specs.Nodes.{joined_trees}
use Rattle.es_steps.proofs.Lists.{joined-empty}
use Rattle.es_export_splits.specs.Splits.{plainly, specifiers}
use Rattle.es_using_modules.specs.ModuleTops.{default_local, names_declared}
use Rattle.lower_export_splits.specs.Parts.{export_with}
use Rattle.lower_export_splits.proofs.Lists.{joined-push}
use Rattle.lower_using.specs.Parts.{of_id}
use Rattle.lower_using_modules.specs.Parts.{default_export_with, default_of, making}
use Rattle.lower_using_modules.proofs.Statements.{left-by, left_by}
use Rattle.lower_using_modules.proofs.exports.leave_outside.Goals as goal

pub returns-in-Some : goal.returns-in-Some
returns-in-Some c context =
    let old = c.args.left.now.items in
    let t = c.args.statement.now in
    let x = c.args.default.now in
    let export = c.in_ok-export.export in
    let left = left-by x context t ∙ ap (λ d. left_by x context (label_of t).id d (default_of t)) (sym c.in-Some.ensures) in
    ap trees c.in_ok-push.ensures.items ∙ (joined-push old export ∙ ap (joined_trees (trees old)) (ap (λ y. y before empty) (c.in_ok-export.ensures ∙ ap (λ i. export_with i (specifiers plainly (names_declared c.in-Some.declaration.now))) c.id_of-id.ensures) ∙ sym left))

pub returns-in-Some-default_of : goal.returns-in-Some-default_of
returns-in-Some-default_of c context =
    let old = c.args.left.now.items in
    let t = c.args.statement.now in
    let x = c.args.default.now in
    let e = c.in-Some-default_of.exported.now in
    let left = left-by x context t ∙ (ap (λ d. left_by x context (label_of t).id d (default_of t)) (sym c.in_default.ensures) ∙ ap (λ d. left_by x context (label_of t).id None d) (sym c.in-Some-default_of.ensures)) in
    ap trees c.in_ok-push-2.ensures.items ∙
    (joined-push old c.in_ok-export-2.export ∙ ap (joined_trees (trees old)) (ap (λ y. y before empty) (c.in_ok-export-2.ensures context ∙ ap (λ i. default_export_with i (default_local (making x context) (of_id i) e)) c.id_of-id.ensures) ∙ sym left))

pub returns : goal.returns
returns c context =
    let old = c.args.left.now.items in
    let t = c.args.statement.now in
    let x = c.args.default.now in
    let left = left-by x context t ∙ (ap (λ d. left_by x context (label_of t).id d (default_of t)) (sym c.in_default.ensures) ∙ ap (λ d. left_by x context (label_of t).id None d) (sym c.in_default-default_of.ensures)) in
    sym (ap (joined_trees (trees old)) left ∙ joined-empty (trees old))
