use Rattle.std.proofs.Common.{◌≡◌, ◌+◌, ◌∙◌, ap, arith, refl, Some}
use Rattle.es_resolution.specs.Seen.{seen}
use Rattle.es_steps.specs.Nodes.{identifier}
use Rattle.lower_temporaries.specs.SeenTrees.{named}
use Rattle.lower_temporaries.specs.Shapes.{at_span}
use Rattle.lower_temporaries.specs.Temporaries.{bound_of}
use Rattle.lower_temporaries.proofs.Takings.{reads-ids, reads-then, takes-reads}
use Rattle.lower_nullish_coalescing.proofs.Coalescings.{wrote-by}
use Rattle.lower_nullish_coalescing.proofs.coalescing.lower_by_temporary.Goals as goal

pub returns : goal.returns
returns c =
    let t = c.in_ok-name.field-0 in
    let taken = c.in_ok-name.ensures.taken in
    let mid = c.read_name-2.new.ctx in
    let new = record mid { ast = c.new_tested.new.ast } in
    let more : c.new_tested.new.ast.next ≡ mid.ast.next + 8 = omega (arith, c.new_assignment_expression.ensures.counted, c.in_ok-node.ensures.counted) in
    let reads = reads-then {m = 1} {n = 1} c.in_ok-again.ensures.reads c.in_ok-value.ensures.reads in
    let called : named c.as_str.result.now (Some t.symbol_id.0) ≡ bound_of t = λ i. record { name = c.as_str.ensures.value i; symbol = Some t.symbol_id.0 } in
    record {
      temporary = bound_of t;
      next = taken.next;
      takes = takes-reads {m = 3} {n = 10} c.new_temporary.new.ctx new taken.takes
          (reads-then {m = 2} {n = 8} reads (reads-ids 8 mid new more refl (record { used = λ x. refl; made_is = refl }) (record { state = refl; options = refl; around = refl; scopes = refl; place = refl })));
      wrote = wrote-by (at_span c.args.span) (bound_of t) _ t.target c.args.left c.in_ok-first.first c.in_ok-again.again (λ names. seen names c.args.right) (λ names. seen names c.in_ok-node.node)
          taken.target (λ names. c.in_ok-again.ensures.made names ∙ ap (λ b. identifier b) called) c.in_ok-first.ensures.made c.in_ok-node.ensures.made;
    }
