use Rattle.std.proofs.Common.{◌∙◌, List, [], subst, sym}
use Rattle.std.specs.Vec.Iter.{into_iter_items}
use Rattle.es_tree.specs.Tree.{Tree}
use Rattle.lower_pattern_moves.proofs.MovedParameters.{ParametersSoFar, parameters-all, parameters-next, parameters-none}
use Rattle.lower_pattern_moves.proofs.parameters.move_parameters.Goals as goal

pub loop-parameter-init : goal.loop-parameter-init
loop-parameter-init c =
    let uids = c.args.uids.now in
    let all = c.args.parameters.items in
    subst (λ (rest : List Tree). ParametersSoFar uids uids all c.new-named.result.items c.new-declared.result.items rest) (sym c.into_iter-parameter-iterator.ensures.into_iter_gives.0)
    (subst (λ (ns : List Tree). ParametersSoFar uids uids all ns c.new-declared.result.items all) (sym c.new-named.ensures.items) (subst (λ (ds : List Tree). ParametersSoFar uids uids all [] ds all) (sym c.new-declared.ensures.items) (parameters-none uids all)))

pub loop-parameter-preserved : goal.loop-parameter-preserved
loop-parameter-preserved c =
    let l = c.loop-parameter in
    parameters-next c.in-Some.parameter c.in_ok-add_parameter.ensures (subst (λ (ts : List Tree). ParametersSoFar c.args.uids.now l.uids c.args.parameters.items l.named.items l.declared.items ts) c.in-Some.ensures.steps.0 l.invariant)

pub returns : goal.returns
returns c =
    let ended = c.loop-parameter.parameter-iterator in
    parameters-all (into_iter_items ended) (sym ended.rest.ok.0 ∙ c.in-None.ensures.steps.0) c.loop-parameter.invariant
