use Rattle.es_using_rows.proofs.UsedLaws.{law_used_steps_proof}
use Rattle.es_using_rows.proofs.law_used_steps.Goals as goal

pub returns : goal.returns
returns c = law_used_steps_proof
