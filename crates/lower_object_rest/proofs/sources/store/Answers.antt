use Rattle.std.proofs.Common.{ap, arith, refl, subst, ◌∙◌}
use Rattle.es_resolution.specs.Seen.{seen}
use Rattle.es_steps.specs.Nodes.{declarator_with}
use Rattle.es_changes.specs.Moments.{Moment}
use Rattle.es_scope.specs.declared.context.TraverseCtx.{TraverseCtx}
use Rattle.lower_temporaries.specs.declared.state.TransformState.{TransformState}
use Rattle.lower_temporaries.specs.SeenTrees.{no_bindings}
use Rattle.lower_temporaries.specs.Takings.{ReadsMore}
use Rattle.lower_temporaries.proofs.Takings.{reads-ids, reads-then}
use Rattle.lower_object_rest.proofs.Costs.{size-name}
use Rattle.lower_object_rest.proofs.Declarators.{bound-read, seen-name}
use Rattle.lower_object_rest.proofs.sources.store.Goals as goal

pub read_once_more-requires : goal.read_once_more-requires
read_once_more-requires c =
    let taken = c.in_ok-name.ensures.taken in
    let size = size-name c.in_ok-name.name (seen-name c.in_ok-name.name taken.name (taken.stands no_bindings)) in
    record { room = omega (arith, size, taken.takes.next_is, c.requires.room) }

pub new_variable_declarator-requires : goal.new_variable_declarator-requires
new_variable_declarator-requires c =
    let taken = c.in_ok-name.ensures.taken in
    let size = size-name c.in_ok-name.name (seen-name c.in_ok-name.name taken.name (taken.stands no_bindings)) in
    let next = ap (λ (a : Moment). a.next) c.in_ok-read.ensures.reads.moment_is in
    omega (arith, size, next, taken.takes.next_is, c.requires.room)

pub returns : goal.returns
returns c =
    let taken = c.in_ok-name.ensures.taken in
    let name = c.in_ok-name.name in
    let bound = c.new_bound_name_based_on_node.new.ctx in
    let mid = c.read_once_more.new.ctx in
    let new : TraverseCtx TransformState = record mid { ast = c.new_variable_declarator.new.ast } in
    let read = subst (λ n. ReadsMore n bound mid) (size-name name (seen-name name taken.name (taken.stands no_bindings))) c.in_ok-read.ensures.reads in
    let more = reads-then {m = 1} {n = 1} read (reads-ids 1 mid new c.new_variable_declarator.ensures.counted refl (record { used = λ x. refl; made_is = refl }) (record { state = refl; options = refl; around = refl; scopes = refl; place = refl })) in
    record {
      name = taken.name;
      next = taken.next;
      declarator_is = λ names. ap (seen names) c.in_ok-declarator.ensures.made ∙ (λ i. declarator_with (taken.stands names i) (seen names c.args.source));
      read_is = λ names. c.in_ok-read.ensures.copy names ∙ taken.stands names;
      takes = bound-read taken.name 1 2 c.args.ctx.now bound new taken.takes more;
    }
