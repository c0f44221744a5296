use Rattle.std.proofs.Common.{refl, true≢false}
use Rattle.es_conditions.proofs.Inward.{law_conditions_proof}
use Rattle.lower_editions.specs.Apart.{all_apart, all_end, editions_apart, editions_end, last_apart, last_end, later_apart, later_end, values_apart, values_end}
use Rattle.lower_driver.proofs.visiting.visit.Goals as goal

pub new-values-requires-clause-apart : goal.new-values-requires-clause-apart
new-values-requires-clause-apart c = values_apart

pub new-values-requires-clause-ends : goal.new-values-requires-clause-ends
new-values-requires-clause-ends c = values_end

pub new-last-requires-clause-apart : goal.new-last-requires-clause-apart
new-last-requires-clause-apart c = last_apart

pub new-last-requires-clause-ends : goal.new-last-requires-clause-ends
new-last-requires-clause-ends c = last_end

pub new-requires-clause-apart : goal.new-requires-clause-apart
new-requires-clause-apart c = later_apart

pub new-requires-clause-ends : goal.new-requires-clause-ends
new-requires-clause-ends c = later_end

pub new-editions-requires-clause-apart : goal.new-editions-requires-clause-apart
new-editions-requires-clause-apart c = editions_apart

pub new-editions-requires-clause-ends : goal.new-editions-requires-clause-ends
new-editions-requires-clause-ends c = editions_end

pub new-all-requires-clause-apart : goal.new-all-requires-clause-apart
new-all-requires-clause-apart c = all_apart

pub new-all-requires-clause-ends : goal.new-all-requires-clause-ends
new-all-requires-clause-ends c = all_end

pub visit_by-requires-clause-can : goal.visit_by-requires-clause-can
visit_by-requires-clause-can c = record { pairs = λ s e. absurd (true≢false e); sound = law_conditions_proof c.args.ctx.now.options; counts = λ n t. refl; leaves = λ n t. refl }
