use Rattle.std.proofs.Common.{subst, sym, ◌∙◌}
use Rattle.std.proofs.lemmas.Result.{IfOk-weaker}
use Rattle.lower_command.specs.Run.{IsJobAnswer}
use Rattle.lower_command.proofs.Counts.{count_most}
use Rattle.lower_command.proofs.Outcome.{generated_due, is_due}
use Rattle.lower_command.proofs.run.find_answer.Goals as goal

pub answer_to_count-requires : goal.answer_to_count-requires
answer_to_count-requires g c = count_most c.args.words.now c.in-Some.count c.in-Ok.ensures.proper (sym c.in-Ok.ensures.generate ∙ c.in-Some.is)

pub returns-in-Some-clause-due : goal.returns-in-Some-clause-due
returns-in-Some-clause-due g c =
    IfOk-weaker c.answer_to_count.result _ _
    (λ answer job. generated_due c.in-Ok.command.options answer c.args.words.now _ c.in-Some.count c.in-Ok.ensures.proper c.in-Ok.ensures.asked
    (sym c.in-Ok.ensures.generate ∙ c.in-Some.is) job)
    c.answer_to_count.ensures

pub returns-in-Ok-read_input-clause-due : goal.returns-in-Ok-read_input-clause-due
returns-in-Ok-read_input-clause-due g c =
    let options = c.in-Ok.command.options in
    IfOk-weaker c.answer_to.result _ _
    (λ answer job. is_due options answer c.args.words.now _ _ c.in-Ok-read_input.bytes.items
    (record { proper = c.in-Ok.ensures.proper; plain = sym c.in-Ok.ensures.generate ∙ c.in-None.is }) c.in-Ok.ensures.asked
    c.in-Ok-read_input.ensures.whole c.in-Ok-read_input.ensures.short (subst (IsJobAnswer options answer) c.deref.ensures.value job))
    c.answer_to.ensures
