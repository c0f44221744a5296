use Rattle.es_steps.proofs.BridgeStart.{law_runs_by_symbols_proof}
use Rattle.es_steps.proofs.law_runs_by_symbols.Goals as goal

pub returns : goal.returns
returns c = law_runs_by_symbols_proof
