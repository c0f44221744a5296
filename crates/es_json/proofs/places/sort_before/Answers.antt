use Rattle.es_json.proofs.Lists.{sort_before-some}
use Rattle.es_json.proofs.places.sort_before.Goals as goal

pub returns-in-len1-up : goal.returns-in-len1-up
returns-in-len1-up c = sort_before-some c.args.sort c.args.last c.args.rest.now c.in-len1-up.len_at_least
