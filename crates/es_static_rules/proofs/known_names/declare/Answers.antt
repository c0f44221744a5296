use Rattle.es_static_rules.proofs.NamesKnown.{Knows-more}
use Rattle.es_static_rules.proofs.known_names.declare.Goals as goal

pub returns : goal.returns
returns c =
    Knows-more c.args.names.now c.insert.new.self c.args.name.now c.key_of-key.result c.known-earlier.result c.either_lexical.result c.key_of-key.ensures c.known-earlier.ensures c.either_lexical.ensures c.in_ok-_old.ensures.updates
