use Rattle.es_steps.proofs.TableSites.{law_table_sites_proof}
use Rattle.es_steps.proofs.law_table_sites.Goals as goal

pub returns : goal.returns
returns c = law_table_sites_proof
