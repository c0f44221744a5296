use Rattle.std.proofs.Common.{◌≡◌, take}
use Rattle.es_tree.specs.Tree.{trees}
use Rattle.es_export_splits.specs.Splits.{names_of_declarators, plainly, specifiers}
use Rattle.lower_export_splits.proofs.specifiers.specifiers_of.Given as goal

abbrev pub invariant-loop-declarator : goal.invariant-loop-declarator
invariant-loop-declarator l = trees l.made.items ≡ specifiers plainly (names_of_declarators (trees (take l.declarator-index l.declarator-items)))
