use Rattle.es_static_rules.proofs.Outward.{split_outward}
use Rattle.es_static_rules.proofs.ancestors.split_parent.Goals as goal

pub returns : goal.returns
returns c = split_outward c.args.ancestors.now c.split_last.result c.split_last.ensures.cases
