use Rattle.es_stackless_runs.proofs.EveryTree.{law_stackless_proof}
use Rattle.es_stackless_runs.proofs.law_stackless.Goals as goal

pub returns : goal.returns
returns c = law_stackless_proof
