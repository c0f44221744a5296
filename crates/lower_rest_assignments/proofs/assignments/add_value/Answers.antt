use Rattle.std.proofs.Common.{ap, append-nil, arith, refl, sym, ◌∷◌, ◌∙◌, []}
use Rattle.es_tree.specs.Tree.{Tree}
use Rattle.es_steps.specs.Nodes.{identifier}
use Rattle.es_steps.specs.RestAssignments.{value_after}
use Rattle.lower_temporaries.specs.Declarators.{bound_as}
use Rattle.lower_temporaries.proofs.Takings.{reads-none}
use Rattle.lower_rest_assignments.proofs.Properties.{load-told, size-told}
use Rattle.lower_rest_assignments.proofs.assignments.add_value.Goals as goal

pub returns-then-unused : goal.returns-then-unused
returns-then-unused c = record {
  ids = 0;
  reads = reads-none c.args.ctx.now;
  added = [];
  are = sym (append-nil c.args.assignments.items);
  value = λ names. ap (λ b. value_after b (bound_as c.args.name.now)) (sym c.if-unused.true);
  few = omega arith;
  size = refl;
  load = refl;
}

pub returns : goal.returns
returns c =
    let value = c.in_ok-value.value in
    let s = bound_as c.args.name.now in
    let load = load-told value (λ names. identifier s) c.in_ok-value.ensures.made in
    let size = size-told value (λ names. identifier s) c.in_ok-value.ensures.made in
    record {
      ids = 1;
      reads = c.in_ok-value.ensures.reads;
      added = value ∷ [];
      are = c.in_ok-push.ensures.items;
      value = λ names. ap (λ (t : Tree). t ∷ []) (c.in_ok-value.ensures.made names) ∙ ap (λ b. value_after b s) (sym c.if-unused.false);
      few = omega arith;
      size = omega (arith, size);
      load = omega (arith, load);
    }
