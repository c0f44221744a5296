use Rattle.std.proofs.Common.{length}
use Rattle.es_static_rules.proofs.classes.+is_declared_around.Given as goal

abbrev pub decreases-is_declared_around : goal.decreases-is_declared_around
decreases-is_declared_around l = length l.ancestors.now
