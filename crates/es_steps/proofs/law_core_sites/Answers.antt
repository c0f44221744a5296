use Rattle.es_steps.proofs.SitesStay.{law_core_sites_proof}
use Rattle.es_steps.proofs.law_core_sites.Goals as goal

pub returns : goal.returns
returns c = law_core_sites_proof
