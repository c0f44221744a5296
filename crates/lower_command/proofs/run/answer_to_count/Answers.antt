use Rattle.lower_command.proofs.Scripts.{script_refused}
use Rattle.lower_command.proofs.run.answer_to_count.Goals as goal

pub returns-in_ok-refusal_line-in-Err : goal.returns-in_ok-refusal_line-in-Err
returns-in_ok-refusal_line-in-Err c =
    script_refused c.args.options.now c.args.count c.in-Err.error _ c.in-Err.ensures.cause c.in_ok-refusal_line-in-Err.ensures.line c.in_ok-refusal_line-in-Err.ensures.told
