use Rattle.std.proofs.Common.{arith, subst, ◌∙◌}
use Rattle.lower_temporaries.specs.SeenTrees.{no_bindings}
use Rattle.lower_temporaries.specs.Takings.{ReadsMore}
use Rattle.lower_object_rest.proofs.Costs.{size-name}
use Rattle.lower_object_rest.proofs.Declarators.{bound-read, seen-name}
use Rattle.lower_object_rest.proofs.sources.new_reference.Goals as goal

pub read_once_more-requires : goal.read_once_more-requires
read_once_more-requires c =
    let taken = c.in_ok-name.ensures.taken in
    let size = size-name c.in_ok-name.name (seen-name c.in_ok-name.name taken.name (taken.stands no_bindings)) in
    record { room = omega (arith, size, taken.takes.next_is, c.requires.room) }

pub returns : goal.returns
returns c =
    let taken = c.in_ok-name.ensures.taken in
    let name = c.in_ok-name.name in
    let bound = c.new_bound_name.new.ctx in
    let new = c.read_once_more.new.ctx in
    let read = subst (λ n. ReadsMore n bound new) (size-name name (seen-name name taken.name (taken.stands no_bindings))) c.in_ok-read.ensures.reads in
    record {
      name = taken.name;
      next = taken.next;
      binding_is = taken.stands;
      read_is = λ names. c.in_ok-read.ensures.copy names ∙ taken.stands names;
      takes = bound-read taken.name 1 1 c.args.ctx.now bound new taken.takes read;
    }
