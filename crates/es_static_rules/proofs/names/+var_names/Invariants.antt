use Rattle.std.proofs.Common.{length}
use Rattle.es_static_rules.proofs.names.+var_names.Given as goal

abbrev pub decreases-var_names : goal.decreases-var_names
decreases-var_names l = length l.ancestors.now
