use Rattle.es_module_names.proofs.BareNames.{law_outside_bare_proof}
use Rattle.es_module_names.proofs.law_outside_bare.Goals as goal

pub returns : goal.returns
returns c = law_outside_bare_proof
