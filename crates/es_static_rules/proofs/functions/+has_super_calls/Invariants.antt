use Rattle.std.proofs.Common.{length}
use Rattle.es_static_rules.proofs.functions.+has_super_calls.Given as goal

abbrev pub decreases-has_super_calls : goal.decreases-has_super_calls
decreases-has_super_calls l = length l.ancestors.now
