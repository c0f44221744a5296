use Rattle.es_scope.proofs.Trims.{without_underscores-trim}
use Rattle.es_scope.proofs.base.without_underscores.Goals as goal

pub returns : goal.returns
returns c = without_underscores-trim c.args.text.now c.trim_start_matches.result.now c.trim_start_matches.ensures.matches
