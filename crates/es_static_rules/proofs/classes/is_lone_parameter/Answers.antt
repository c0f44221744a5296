use Rattle.es_static_rules.proofs.Accessors.{lone_parameter-more}
use Rattle.es_static_rules.proofs.classes.is_lone_parameter.Goals as goal

pub returns-in_default-2 : goal.returns-in_default-2
returns-in_default-2 c = lone_parameter-more c.args.parameters.now c.in_default.len_at_least
