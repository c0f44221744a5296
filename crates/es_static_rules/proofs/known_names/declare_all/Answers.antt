use Rattle.es_static_rules.proofs.NamesKnown.{Declares-next}
use Rattle.es_static_rules.proofs.known_names.declare_all.Goals as goal

pub loop-name-preserved : goal.loop-name-preserved
loop-name-preserved c =
    Declares-next c.args.names.now c.loop-name.names c.declare.new.names c.args.declared.now c.loop-name.name-index _ c.loop-name-test.true c.loop-name.invariant c.in_ok-declare.ensures
