use Rattle.es_valid_using.proofs.UsingLaws.{law_using_reached_proof}
use Rattle.es_valid_using.proofs.law_using_reached.Goals as goal

pub returns : goal.returns
returns c = law_using_reached_proof
