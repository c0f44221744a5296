use Rattle.es_static_rules.proofs.NamesKnown.{declared-answer}
use Rattle.es_static_rules.proofs.known_names.is_declared.Goals as goal

pub returns : goal.returns
returns c =
    declared-answer c.args.names.now (record { namespace = c.args.namespace; owner = c.args.owner; text = c.args.text }) c.known.result c.is_some.result c.known.ensures c.is_some.ensures
