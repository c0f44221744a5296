use Rattle.std.proofs.Common.{◌≡◌, ◌-◌, ◌≤◌, ◌++◌, take, drop}
use Rattle.es_tree.specs.Fresh.{first_characters}
use Rattle.es_scope.proofs.base.first_characters.Given as goal

abbrev pub invariant-loop-index : goal.invariant-loop-index
invariant-loop-index l =
    (l.kept ≤ 20) × (first_characters 20 l.text ≡ take l.index l.text ++ first_characters (20 - l.kept) (drop l.index l.text))
