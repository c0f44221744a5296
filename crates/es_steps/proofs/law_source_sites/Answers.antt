use Rattle.es_steps.proofs.SourceSites.{law_source_sites_proof}
use Rattle.es_steps.proofs.law_source_sites.Goals as goal

pub returns : goal.returns
returns c = law_source_sites_proof
