use Rattle.es_json.proofs.Lists.{counts_fit-items_view}
use Rattle.es_json.proofs.places.counts_fit.Goals as goal

pub returns-in-Some-Some : goal.returns-in-Some-Some
returns-in-Some-Some c = counts_fit-items_view c.in-Some-Some.quasis.now c.in-Some-Some.expressions.now _ _ c.in-Some-Some.ensures c.in-Some-Some.ensures'
