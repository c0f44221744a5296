use Rattle.std.proofs.Common.{length}
use Rattle.es_static_rules.proofs.modules.+is_module.Given as goal

abbrev pub decreases-is_module : goal.decreases-is_module
decreases-is_module l = length l.ancestors.now
