use Rattle.std.proofs.Common.{length}
use Rattle.es_static_rules.proofs.functions.+has_new_target.Given as goal

abbrev pub decreases-has_new_target : goal.decreases-has_new_target
decreases-has_new_target l = length l.ancestors.now
