use Rattle.std.proofs.Common.{ap}
use Rattle.es_tree.specs.Heads.{scope}
use Rattle.es_semantic.proofs.PlaceSteps.{known_or}
use Rattle.es_semantic.proofs.places.scope_in.Goals as goal

pub returns-in-Some-clause-known : goal.returns-in-Some-clause-known
returns-in-Some-clause-known c = λ count known name own. own c.in-Some.scope.0 (ap scope c.in-Some.is)

pub returns-in_default-clause-known : goal.returns-in_default-clause-known
returns-in_default-clause-known c = λ count known name own. rw c.unwrap_or.ensures (known_or c.args.own.name c.args.place.scope count name known.scope_known)
