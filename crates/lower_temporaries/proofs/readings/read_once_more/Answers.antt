use Rattle.std.proofs.Common.{◌∙◌, ap}
use Rattle.es_resolution.specs.Seen.{seen}
use Rattle.lower_temporaries.proofs.SeenLaws.{renumber-seen}
use Rattle.lower_temporaries.proofs.readings.read_once_more.Goals as goal

pub returns-clause-copy : goal.returns-clause-copy
returns-clause-copy c = λ names. ap (seen names) c.in_ok-node-2.ensures.copy ∙ renumber-seen names _ c.args.expression.now
