use Rattle.std.proofs.Common.{map, take}
use Rattle.es_static_rules.specs.Bindings.{plain_name}
use Rattle.es_static_rules.specs.Checks.{Declares}
use Rattle.es_static_rules.proofs.known_names.declare_all.Given as goal

abbrev pub invariant-loop-name : goal.invariant-loop-name
invariant-loop-name l = Declares l.initial.names l.names (map plain_name (take l.name-index l.declared))
