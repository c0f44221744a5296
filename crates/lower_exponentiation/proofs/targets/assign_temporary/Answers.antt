use Rattle.std.proofs.Common.{◌∙◌, ap, refl, subst, sym}
use Rattle.es_resolution.specs.Seen.{seen}
use Rattle.es_runs.specs.Rules.{assign_node}
use Rattle.es_steps.specs.Duplication.{IsNext}
use Rattle.es_changes.specs.Moments.{whole_at}
use Rattle.lower_temporaries.specs.Takings.{moment_of}
use Rattle.lower_temporaries.specs.Temporaries.{bound_of}
use Rattle.lower_temporaries.proofs.SeenLaws.{base-seen}
use Rattle.lower_temporaries.proofs.Takings.{reads-ids, takes-reads}
use Rattle.lower_exponentiation.proofs.targets.assign_temporary.Goals as goal

pub returns : goal.returns
returns c names =
    let taken = c.in_ok-name.ensures.taken in
    let mid = c.new_temporary.new.ctx in
    let new = record mid { ast = c.new_assignment_expression.new.ast } in
    record {
      next = subst (λ base. IsNext (whole_at (moment_of c.args.ctx.now)) base (bound_of c.in_ok-name.field-0)) (sym (base-seen names c.args.node)) taken.next;
      takes = takes-reads {m = 3} {n = 1} mid new taken.takes (reads-ids 1 mid new c.in_ok-first.ensures.counted refl (record { used = λ x. refl; made_is = refl }) (record { state = refl; options = refl; around = refl; scopes = refl; place = refl }));
      wrote = ap (seen names) c.in_ok-first.ensures.made ∙ ap (λ u. assign_node u (seen names c.args.node)) (taken.target names);
    }
