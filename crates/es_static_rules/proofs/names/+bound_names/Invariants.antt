use Rattle.std.proofs.Common.{length}
use Rattle.es_static_rules.proofs.names.+bound_names.Given as goal

abbrev pub decreases-bound_names : goal.decreases-bound_names
decreases-bound_names l = length l.ancestors.now
