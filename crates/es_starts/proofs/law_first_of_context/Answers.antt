use Rattle.es_starts.proofs.FirstContext.{first-of-context}
use Rattle.es_starts.proofs.law_first_of_context.Goals as goal

pub returns : goal.returns
returns c s p h = first-of-context p _ _ h
