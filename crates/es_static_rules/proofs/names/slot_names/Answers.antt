use Rattle.es_static_rules.proofs.Bindings.{Adds-slot}
use Rattle.es_static_rules.proofs.names.slot_names.Goals as goal

pub loop-slot-preserved : goal.loop-slot-preserved
loop-slot-preserved c =
    Adds-slot c.args.names.now.items c.loop-slot.names.items c.push_name.new.names.items c.args.slots.now c.args.class c.args.text.now c.loop-slot.slot-index _ c.loop-slot-test.true c.loop-slot.invariant c.in_ok-push_name.ensures
