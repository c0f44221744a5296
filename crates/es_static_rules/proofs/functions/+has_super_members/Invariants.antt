use Rattle.std.proofs.Common.{length}
use Rattle.es_static_rules.proofs.functions.+has_super_members.Given as goal

abbrev pub decreases-has_super_members : goal.decreases-has_super_members
decreases-has_super_members l = length l.ancestors.now
