use Rattle.std.proofs.Common.{◌≡◌, drop}
use Rattle.es_tree.specs.Tree.{trees}
use Rattle.es_using_rows.specs.UsingPlaces.{all_enter, may_enter}
use Rattle.es_using_nodes.proofs.entering.may_enter.Given as goal

-- the first statements do, so that the others decide
abbrev pub invariant-loop-index : goal.invariant-loop-index
invariant-loop-index l = may_enter (trees l.parameters) (trees l.statements) ≡ all_enter (trees l.parameters) (trees l.statements) (trees (drop l.index l.statements))
