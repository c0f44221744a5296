use Rattle.es_semantic.proofs.PlaceSteps.{known_or}
use Rattle.es_semantic.proofs.places.hoist_in.Goals as goal

pub returns-then-is_hoisted_to-clause-known : goal.returns-then-is_hoisted_to-clause-known
returns-then-is_hoisted_to-clause-known c = λ count known own. rw c.unwrap_or.ensures (known_or c.args.own.own c.args.place.hoist count own known.hoist_known)
