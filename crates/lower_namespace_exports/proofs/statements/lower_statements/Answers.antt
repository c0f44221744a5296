use Rattle.std.proofs.Common.{◌≡◌, ◌∙◌, ◌∷◌, List, subst, sym}
use Rattle.std.specs.Vec.Iter.{into_iter_items}
use Rattle.es_tree.specs.Tree.{Tree, trees}
use Rattle.es_runs.specs.Weights.{trees_weight}
use Rattle.es_changes.specs.Changes.{HasRoom}
use Rattle.lower_temporaries.specs.Takings.{moment_of}
use Rattle.lower_namespace_exports.proofs.Weighed.{LoweredSoFar, lowered-all, lowered-next, room-next}
use Rattle.lower_namespace_exports.proofs.statements.lower_statements.Goals as goal

pub loop-statement-preserved : goal.loop-statement-preserved
loop-statement-preserved c =
    let a = moment_of c.args.ctx.now in
    let b = moment_of c.loop-statement.ctx in
    let all = c.args.statements.items in
    let rest = into_iter_items c.next.new.self in
    let taken : into_iter_items c.loop-statement.statement-iterator ≡ c.in-Some.statement ∷ rest = c.in-Some.ensures.steps.0 in
    let put = c.in_ok-lower_statement.ensures.put in
    record {
      so_far = lowered-next a b _ all c.loop-statement.lowered.items _ c.in-Some.statement rest (subst (λ (ts : List Tree). LoweredSoFar a all b c.loop-statement.lowered.items ts) taken c.loop-statement.invariant.so_far) put;
      room = room-next b _ c.loop-statement.lowered.items _ c.in-Some.statement (trees_weight (trees rest)) put (subst (λ (ts : List Tree). HasRoom b (trees_weight (trees ts))) taken c.loop-statement.invariant.room);
    }

pub returns : goal.returns
returns c =
    let ended = c.loop-statement.statement-iterator in
    record { lowered = lowered-all (moment_of c.args.ctx.now) (moment_of c.loop-statement.ctx) c.args.statements.items c.loop-statement.lowered.items (into_iter_items ended) (sym ended.rest.ok.0 ∙ c.in-None.ensures.steps.0) c.loop-statement.invariant.so_far }
