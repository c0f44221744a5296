use Rattle.es_static_rules.proofs.NamesKnown.{clashes-answer}
use Rattle.es_static_rules.proofs.known_names.clashes.Goals as goal

pub returns : goal.returns
returns c = clashes-answer c.args.names.now c.args.name.now c.key_of.result c.known.result c.clashes_with.result c.key_of.ensures c.known.ensures c.clashes_with.ensures
