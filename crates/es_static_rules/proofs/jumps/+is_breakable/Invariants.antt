use Rattle.std.proofs.Common.{length}
use Rattle.es_static_rules.proofs.jumps.+is_breakable.Given as goal

abbrev pub decreases-is_breakable : goal.decreases-is_breakable
decreases-is_breakable l = length l.ancestors.now
