use Rattle.std.proofs.Common.{◌≡◌, ◌∙◌, ◌∷◌, List, subst, sym}
use Rattle.std.specs.Vec.Iter.{into_iter_items}
use Rattle.es_tree.specs.Tree.{Tree, trees}
use Rattle.es_steps.specs.Nodes.{joined_trees}
use Rattle.es_export_splits.specs.Splits.{plainly, split_list}
use Rattle.lower_export_splits.proofs.Lists.{split-all, split-next}
use Rattle.lower_export_splits.proofs.statements.split_statements.Goals as goal

pub loop-statement-preserved : goal.loop-statement-preserved
loop-statement-preserved c =
    let all = split_list plainly (trees c.args.statements.items) in
    let mid = c.loop-statement.split.items in
    let rest = into_iter_items c.next.new.self in
    let taken : into_iter_items c.loop-statement.statement-iterator ≡ c.in-Some.statement ∷ rest = c.in-Some.ensures.steps.0 in
    split-next plainly mid c.split_statement.new.split.items rest c.in-Some.statement all
    (subst (λ (ts : List Tree). joined_trees (trees mid) (split_list plainly (trees ts)) ≡ all) taken c.loop-statement.invariant) c.in_ok-split_statement.ensures

pub returns : goal.returns
returns c =
    let ended = c.loop-statement.statement-iterator in
    split-all plainly c.loop-statement.split.items (into_iter_items ended) (split_list plainly (trees c.args.statements.items)) (sym ended.rest.ok.0 ∙ c.in-None.ensures.steps.0) c.loop-statement.invariant
