use Rattle.std.proofs.Common.{length}
use Rattle.es_static_rules.proofs.jumps.+has_loop_label.Given as goal

abbrev pub decreases-has_loop_label : goal.decreases-has_loop_label
decreases-has_loop_label l = length l.ancestors.now
