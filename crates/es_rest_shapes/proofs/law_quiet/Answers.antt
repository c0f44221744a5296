use Rattle.es_rest_shapes.proofs.Quiet.{stray-none}
use Rattle.es_rest_shapes.proofs.law_quiet.Goals as goal

pub returns : goal.returns
returns c = stray-none
