use Rattle.std.proofs.Common.{◌∙◌, ap, refl}
use Rattle.es_resolution.specs.Seen.{seen}
use Rattle.es_steps.specs.Nodes.{assign_node}
use Rattle.lower_temporaries.proofs.Takings.{reads-ids, takes-reads}
use Rattle.lower_rest_assignments.proofs.values.store.Goals as goal

pub returns : goal.returns
returns c =
    let taken = c.in_ok-name.ensures.taken in
    let mid = c.new_temporary.new.ctx in
    let new = record mid { ast = c.new_assignment_expression.new.ast } in
    record {
      next = taken.next;
      is = λ names. ap (seen names) c.in_ok-assignment.ensures.made ∙ ap (λ t. assign_node t (seen names c.args.expression)) (taken.target names);
      takes = takes-reads {m = 3} {n = 1} mid new taken.takes (reads-ids 1 mid new c.in_ok-assignment.ensures.counted refl (record { used = λ x. refl; made_is = refl }) (record { state = refl; options = refl; around = refl; scopes = refl; place = refl }));
    }
