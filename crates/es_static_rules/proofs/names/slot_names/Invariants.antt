use Rattle.std.proofs.Common.{take}
use Rattle.es_static_rules.specs.Bindings.{Adds, slot_names}
use Rattle.es_static_rules.proofs.names.slot_names.Given as goal

abbrev pub invariant-loop-slot : goal.invariant-loop-slot
invariant-loop-slot l = Adds l.initial.names.items l.names.items (slot_names (take l.slot-index l.slots) l.class l.text)
