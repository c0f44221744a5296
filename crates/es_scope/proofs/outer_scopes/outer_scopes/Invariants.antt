use Rattle.std.proofs.Common.{◌≡◌, map, take}
use Rattle.es_tree.specs.Tree.{trees}
use Rattle.es_scope.specs.OuterScopes.{outer_in_trees}
use Rattle.es_scope.proofs.outer_scopes.outer_scopes.Given as goal

-- the scopes in the nodes so far are found
abbrev pub invariant-loop-node : goal.invariant-loop-node
invariant-loop-node l = map (λ c. c.0) l.found.items ≡ outer_in_trees l.scoping l.up.0 (trees (take l.node-index l.nodes))
