use Rattle.std.proofs.Common.{◌≡◌, ◌∙◌, List, refl, subst, sym}
use Rattle.std.specs.Vec.Iter.{into_iter_items}
use Rattle.es_tree.specs.Tree.{Tree, trees}
use Rattle.es_steps.specs.Nodes.{joined_trees}
use Rattle.es_using_modules.specs.ModuleTops.{inside, outside}
use Rattle.lower_using_modules.specs.Parts.{making}
use Rattle.lower_using_modules.proofs.PartedLists.{at-end, inside-more, next, outside-more}
use Rattle.lower_using_modules.proofs.lists.part_statements.Goals as goal

pub loop-statement-preserved : goal.loop-statement-preserved
loop-statement-preserved c =
    let m = making c.args.default.now c.args.context.now in
    let all = trees c.args.statements.items in
    let left = c.loop-statement.left.items in
    let moved = c.loop-statement.moved.items in
    let rest = into_iter_items c.next.new.self in
    let t = c.in-Some.statement in
    let taken = c.in-Some.ensures.steps.0 in
    record {
      outside = next (outside m) refl (outside-more m) left c.part_statement.new.left.items rest t (outside m all) (subst (λ (ts : List Tree). joined_trees (trees left) (outside m (trees ts)) ≡ outside m all) taken c.loop-statement.invariant.outside) c.in_ok-part_statement.ensures.outside;
      inside = next (inside m) refl (inside-more m) moved c.part_statement.new.moved.items rest t (inside m all) (subst (λ (ts : List Tree). joined_trees (trees moved) (inside m (trees ts)) ≡ inside m all) taken c.loop-statement.invariant.inside) c.in_ok-part_statement.ensures.inside;
    }

pub returns-clause-outside : goal.returns-clause-outside
returns-clause-outside c =
    let m = making c.args.default.now c.args.context.now in
    let ended = c.loop-statement.statement-iterator in
    at-end (outside m) refl (outside-more m) c.loop-statement.left.items (into_iter_items ended) (outside m (trees c.args.statements.items)) (sym ended.rest.ok.0 ∙ c.in-None.ensures.steps.0) c.loop-statement.invariant.outside

pub returns-clause-inside : goal.returns-clause-inside
returns-clause-inside c =
    let m = making c.args.default.now c.args.context.now in
    let ended = c.loop-statement.statement-iterator in
    at-end (inside m) refl (inside-more m) c.loop-statement.moved.items (into_iter_items ended) (inside m (trees c.args.statements.items)) (sym ended.rest.ok.0 ∙ c.in-None.ensures.steps.0) c.loop-statement.invariant.inside
