use Rattle.std.proofs.Common.{◌+◌, ◌*◌}
use Rattle.std.specs.Vec.Iter.{into_iter_items}
use Rattle.es_tree.specs.Tree.{trees, trees_size}
use Rattle.lower_object_rest.proofs.Composition.{LoweredSoFar}
use Rattle.lower_object_rest.proofs.Costs.{declarator_work, declarators_work, pattern_work}
use Rattle.lower_object_rest.proofs.NestedMade.{PartsSoFar}
use Rattle.lower_object_rest.proofs.+lower.Given as goal

-- each call goes to a smaller pattern, or to one of the same size at a lower rank
abbrev pub decreases-declarations::add_declarators : goal.decreases-declarations::add_declarators
decreases-declarations::add_declarators l = 8 * declarators_work (trees l.declarators.items) + 4

abbrev pub decreases-declarations::add_declarator : goal.decreases-declarations::add_declarator
decreases-declarations::add_declarator l = 8 * declarator_work l.declarator + 3

abbrev pub decreases-declarations::add_pattern : goal.decreases-declarations::add_pattern
decreases-declarations::add_pattern l = 8 * pattern_work l.pattern + 2

abbrev pub decreases-declarations::add_kept : goal.decreases-declarations::add_kept
decreases-declarations::add_kept l = 8 * pattern_work l.pattern + 1

abbrev pub decreases-nested::add_properties : goal.decreases-nested::add_properties
decreases-nested::add_properties l = 8 * trees_size (trees l.pattern.properties.items)

abbrev pub decreases-nested::add_property : goal.decreases-nested::add_property
decreases-nested::add_property l = 8 * pattern_work l.property + 7

abbrev pub invariant-declarations::add_declarators-loop-declarator : goal.invariant-declarations::add_declarators-loop-declarator
invariant-declarations::add_declarators-loop-declarator l = LoweredSoFar l.initial.ctx l.ctx l.fn.declarators.items l.initial.made.items l.made.items (into_iter_items l.declarator-iterator)

abbrev pub invariant-nested::add_properties-loop-property : goal.invariant-nested::add_properties-loop-property
invariant-nested::add_properties-loop-property l = PartsSoFar l.initial.ctx l.ctx l.fn.pattern.properties.items (into_iter_items l.property-iterator) l.source l.group.items l.initial.made.items l.made.items
