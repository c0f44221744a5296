use Rattle.std.proofs.Common.{◌∙◌, ap, subst, sym}
use Rattle.es_tree.specs.Fresh.{node_base}
use Rattle.es_runs.specs.Duplication.{duplicate_base}
use Rattle.es_steps.specs.Duplication.{IsNext}
use Rattle.es_changes.specs.Moments.{whole_at}
use Rattle.lower_temporaries.specs.Declarators.{bound_as}
use Rattle.lower_temporaries.specs.Takings.{moment_of}
use Rattle.lower_temporaries.proofs.UidNames.{other-base}
use Rattle.lower_temporaries.proofs.duplicate.create_temporary.Goals as goal

pub returns-in_ok-temporary-in_default : goal.returns-in_ok-temporary-in_default
returns-in_ok-temporary-in_default c =
    let x = c.expression.inside in
    let b = c.in_ok-temporary-in_default.temporary in
    let base = sym (ap duplicate_base c.expression.view_is) ∙ (other-base x.id x.span x.kind _ c.in_default.not-Identifier ∙ ap node_base c.expression.view_is) in
    record { next = subst (λ t. IsNext (whole_at (moment_of c.args.ctx.now)) t (bound_as b)) (sym base) c.in_ok-temporary-in_default.ensures.next; declared = c.in_ok-temporary-in_default.ensures.declared }
