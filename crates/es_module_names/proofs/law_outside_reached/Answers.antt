use Rattle.es_module_names.proofs.ProgramSteps.{law_outside_reached_proof}
use Rattle.es_module_names.proofs.law_outside_reached.Goals as goal

pub returns : goal.returns
returns c = law_outside_reached_proof
