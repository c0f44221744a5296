use Rattle.es_valid_names.proofs.BareNames.{law_declared_among_proof}
use Rattle.es_valid_names.proofs.law_declared_among.Goals as goal

pub returns : goal.returns
returns c = law_declared_among_proof
