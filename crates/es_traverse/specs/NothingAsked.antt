-- Conditions of a visit by a type that asks nothing of nodes.
use Rattle.std.specs.Prelude.{true}
use Rattle.es_changes.specs.Conditions.{Conditions}

-- every node meets them
abbrev pub nothing_asked : Conditions
nothing_asked = record { before = λ n t. true; after = λ n t. true }
