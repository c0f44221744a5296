use Rattle.std.proofs.Common.{ap, arith, refl, subst, ◌+◌, ◌∙◌, ◌≡◌}
use Rattle.es_changes.specs.Moments.{Moment}
use Rattle.es_resolution.specs.Seen.{seen}
use Rattle.es_steps.specs.Nodes.{declarator_with}
use Rattle.lower_temporaries.specs.Takings.{ReadsMore}
use Rattle.lower_temporaries.proofs.Takings.{reads-ids, reads-then}
use Rattle.lower_object_rest.proofs.Costs.{size-name}
use Rattle.lower_object_rest.proofs.groups.new_group.Goals as goal

pub new_object_pattern-requires : goal.new_object_pattern-requires
new_object_pattern-requires c =
    let next = ap (λ (a : Moment). a.next) c.in_ok-again.ensures.reads.moment_is in
    omega (arith, next, size-name c.args.source.now c.requires.name, c.requires.room)

pub new_variable_declarator-requires : goal.new_variable_declarator-requires
new_variable_declarator-requires c =
    let next = ap (λ (a : Moment). a.next) c.in_ok-again.ensures.reads.moment_is in
    omega (arith, next, size-name c.args.source.now c.requires.name, c.requires.room, c.new_object_pattern.ensures.counted)

pub returns-clause-made : goal.returns-clause-made
returns-clause-made c names = ap (seen names) c.in_ok-declarator.ensures.made ∙ (λ i. declarator_with (seen names (c.in_ok-pattern.ensures.made i)) (c.in_ok-again.ensures.copy names i))

pub returns-clause-reads : goal.returns-clause-reads
returns-clause-reads c =
    let mid = c.read_once_more.new.ctx in
    let again = subst (λ n. ReadsMore n c.args.ctx.now mid) (size-name c.args.source.now c.requires.name) c.in_ok-again.ensures.reads in
    let counted : c.new_variable_declarator.new.ast.next ≡ mid.ast.next + 2 = omega (arith, c.new_object_pattern.ensures.counted, c.new_variable_declarator.ensures.counted) in
    reads-then {m = 1} {n = 2} again (reads-ids 2 mid _ counted refl (record { used = λ x. refl; made_is = refl }) (record { state = refl; options = refl; around = refl; scopes = refl; place = refl }))
