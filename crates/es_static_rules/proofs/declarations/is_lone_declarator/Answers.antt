use Rattle.es_static_rules.proofs.Accessors.{lone_name-more}
use Rattle.es_static_rules.proofs.declarations.is_lone_declarator.Goals as goal

pub returns-in_default-2 : goal.returns-in_default-2
returns-in_default-2 c = lone_name-more c.args.declarators.now c.in_default.len_at_least
