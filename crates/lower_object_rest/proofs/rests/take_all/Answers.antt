use Rattle.std.proofs.Common.{ap, arith, refl, ◌∙◌}
use Rattle.es_changes.specs.Moments.{Moment}
use Rattle.es_resolution.specs.Seen.{seen}
use Rattle.es_steps.specs.Nodes.{declarator_with}
use Rattle.lower_temporaries.proofs.Takings.{reads-ids, reads-then}
use Rattle.lower_object_rest.proofs.rests.take_all.Goals as goal

pub new_variable_declarator-requires : goal.new_variable_declarator-requires
new_variable_declarator-requires c =
    let next = ap (λ (a : Moment). a.next) c.in_ok-value.ensures.reads.moment_is in
    omega (arith, next, c.requires.room)

pub returns : goal.returns
returns c =
    let valued = c.new_all_value.new.ctx in
    record {
      last_is = λ names. ap (seen names) c.in_ok-declarator.ensures.made ∙ ap (λ v. declarator_with (seen names c.args.target) v) (c.in_ok-value.ensures.made names);
      reads = reads-then {m = 11} {n = 1} c.in_ok-value.ensures.reads (reads-ids 1 valued _ c.new_variable_declarator.ensures.counted refl (record { used = λ x. refl; made_is = refl }) (record { state = refl; options = refl; around = refl; scopes = refl; place = refl }));
    }
