use Rattle.std.proofs.Common.{◌≡◌, drop}
use Rattle.es_tree.specs.Tree.{trees}
use Rattle.lower_rest_assignments.specs.Assignments.{are_properties}
use Rattle.lower_rest_assignments.proofs.constructs.are_properties.Given as goal

-- what is asked is whether the members that are left are properties
abbrev pub invariant-loop-member : goal.invariant-loop-member
invariant-loop-member l = are_properties (trees (drop l.member-index l.members)) ≡ are_properties (trees l.members)
