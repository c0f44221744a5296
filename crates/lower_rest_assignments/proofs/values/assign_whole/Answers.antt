use Rattle.std.proofs.Common.{◌∙◌, ap, refl}
use Rattle.es_resolution.specs.Seen.{seen}
use Rattle.es_steps.specs.Nodes.{assign_node}
use Rattle.es_steps.specs.ObjectRest.{whole_value}
use Rattle.lower_temporaries.proofs.Takings.{reads-ids, reads-then}
use Rattle.lower_rest_assignments.proofs.values.assign_whole.Goals as goal

pub returns-clause-made : goal.returns-clause-made
returns-clause-made c names = ap (seen names) c.in_ok-node.ensures.made ∙ ap (assign_node (seen names c.args.target)) (c.in_ok-value.ensures.made names ∙ ap whole_value (c.in_ok-asked.ensures.made names))

pub returns-clause-reads : goal.returns-clause-reads
returns-clause-reads c =
    let valued = c.new_whole_value.new.ctx in
    reads-then {m = 1} {n = 12} c.in_ok-asked.ensures.reads (reads-then {m = 1} {n = 11} c.in_ok-again.ensures.reads (reads-then {m = 10} {n = 1} c.in_ok-value.ensures.reads (reads-ids 1 valued _ c.new_assignment_expression.ensures.counted refl (record { used = λ x. refl; made_is = refl }) (record { state = refl; options = refl; around = refl; scopes = refl; place = refl }))))
