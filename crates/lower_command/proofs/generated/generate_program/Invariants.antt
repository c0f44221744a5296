use Rattle.std.proofs.Common.{◌≡◌, map}
use Rattle.std.specs.List.{range_with_len}
use Rattle.lower_command.specs.Generated.{generated_statement, start_of}
use Rattle.lower_command.proofs.generated.generate_program.Given as goal

abbrev pub invariant-loop-number : goal.invariant-loop-number
invariant-loop-number l = record {
  body : l.body.items ≡ map generated_statement (range_with_len 0 l.number);
  next : l.ast.next ≡ start_of l.number;
}
