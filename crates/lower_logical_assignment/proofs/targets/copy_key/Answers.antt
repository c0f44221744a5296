use Rattle.std.proofs.Common.{◌∙◌, ap}
use Rattle.es_resolution.specs.Seen.{seen}
use Rattle.lower_temporaries.proofs.SeenLaws.{renumber-seen}
use Rattle.lower_logical_assignment.proofs.targets.copy_key.Goals as goal

pub returns-clause-copy : goal.returns-clause-copy
returns-clause-copy c = λ names. ap (λ t. seen names t) c.in_ok-node.ensures.copy ∙ renumber-seen names _ c.args.key.now
