use Rattle.es_json.proofs.NoFaults.{no_faults}
use Rattle.es_json.proofs.laws.law_no_faults.Goals as goal

pub returns : goal.returns
returns c = no_faults
