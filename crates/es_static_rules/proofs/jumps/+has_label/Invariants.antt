use Rattle.std.proofs.Common.{length}
use Rattle.es_static_rules.proofs.jumps.+has_label.Given as goal

abbrev pub decreases-has_label : goal.decreases-has_label
decreases-has_label l = length l.ancestors.now
