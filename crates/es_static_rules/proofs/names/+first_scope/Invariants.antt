use Rattle.std.proofs.Common.{length}
use Rattle.es_static_rules.proofs.names.+first_scope.Given as goal

abbrev pub decreases-first_scope : goal.decreases-first_scope
decreases-first_scope l = length l.ancestors.now
