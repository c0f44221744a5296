use Rattle.std.proofs.Common.{map, ◌++◌, ap, sym, ◌∙◌}
use Rattle.es_scope.specs.OuterScopes.{outer_scopes}
use Rattle.es_scope.proofs.OuterScopes.{outer_in_trees-more}
use Rattle.es_scope.proofs.outer_scopes.outer_scopes.Goals as goal

pub loop-node-init : goal.loop-node-init
loop-node-init c = ap (map (λ s. s.0)) c.new-found.ensures.items

pub loop-node-preserved : goal.loop-node-preserved
loop-node-preserved c =
    c.in_ok-push_outer.ensures ∙ (ap (λ ns. ns ++ outer_scopes c.args.scoping.now c.args.up.0 c.node-item.result) c.loop-node.invariant ∙ sym (outer_in_trees-more c.args.scoping.now c.args.up.0 c.args.nodes.now c.loop-node.node-index c.node-item.result c.loop-node-test.true c.node-item.is))
