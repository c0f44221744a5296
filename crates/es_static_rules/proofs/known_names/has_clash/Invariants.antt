use Rattle.std.proofs.Common.{false, map, take}
use Rattle.es_static_rules.specs.Bindings.{plain_name}
use Rattle.es_static_rules.specs.Checks.{IsClashAnswer}
use Rattle.es_static_rules.proofs.known_names.has_clash.Given as goal

abbrev pub invariant-loop-name : goal.invariant-loop-name
invariant-loop-name l = IsClashAnswer l.names l.rule (map plain_name (take l.name-index l.declared)) false
