use Rattle.std.proofs.Common.{◌∙◌}
use Rattle.es_scope.proofs.context.TraverseCtx.new.Goals as goal

pub invariant_of-result-clause-in_use : goal.invariant_of-result-clause-in_use
invariant_of-result-clause-in_use g c = λ n x m e. c.in_ok-uids.ensures.in_use x ∙ c.requires n x m e
