use Rattle.std.proofs.Common.{◌≡◌, ◌∙◌, ap, arith, refl, sym}
use Rattle.std.proofs.lemmas.List.FromFn.{map-range_with_len_more}
use Rattle.lower_command.specs.Generated.{generated_statement, start_of}
use Rattle.lower_command.proofs.GeneratedFacts.{generated-size}
use Rattle.lower_command.proofs.generated.generate_program.Goals as goal

pub loop-number-preserved : goal.loop-number-preserved
loop-number-preserved c =
    let n = c.loop-number.number in
    record {
      body = rw (c.in_ok-push.ensures.items, c.in_ok-statement.ensures.made, c.loop-number.invariant.body, map-range_with_len_more generated_statement 0 n n (omega arith)) refl;
      next = c.in_ok-statement.ensures.counted;
    }

pub returns-clause-next : goal.returns-clause-next
returns-clause-next c =
    let all : c.loop-number.number ≡ c.args.count = omega arith in
    c.loop-number.invariant.next ∙ ap start_of all ∙ sym (generated-size c.args.count)
