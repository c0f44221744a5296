use Rattle.std.proofs.Common.{◌⊎◌, inl, inr, refl}
use Rattle.lower_command.proofs.Outcome.{table_gave, causes_gave, quiet}
use Rattle.lower_command.proofs.run.run_tool.Goals as goal

either-fails : {P Q A : Type 0} → P ⊎ Q → ¬ P → ¬ Q → A
either-fails (inl x) f g = absurd (f x)
either-fails (inr x) f g = absurd (g x)

pub returns-in-Ok-give-clause-table : goal.returns-in-Ok-give-clause-table
returns-in-Ok-give-clause-table g c =
    rw c.status.ensures (table_gave _ _ _ c.in-Ok.answer (record { due = c.in-Ok.ensures.due; taken = c.in-Ok-give.ensures.all }))

pub returns-in-Ok-give-clause-causes : goal.returns-in-Ok-give-clause-causes
returns-in-Ok-give-clause-causes g c = rw c.status.ensures (causes_gave _ _ _ c.in-Ok.answer (record { due = c.in-Ok.ensures.due; taken = c.in-Ok-give.ensures.all }))

pub returns-in-Ok-give-clause-notes_kept : goal.returns-in-Ok-give-clause-notes_kept
returns-in-Ok-give-clause-notes_kept g c = λ when. c.in-Ok-give.ensures.notes_kept (quiet c.in-Ok.answer _ _ _ c.in-Ok.ensures.due (rw c.status.ensures at when))

-- where writing failed
pub returns-clause-causes : goal.returns-clause-causes
returns-clause-causes g c = record {
  refused_words = λ improper. inr (inl refl);
  too_long = λ bytes has long. inr (inl refl);
  refused_input = λ o asked bytes has short other. inr (inl refl);
  told = λ o asked bytes has short error cause. inr (inl refl);
  done = λ o asked bytes has written short source. either-fails c.in-Err.ensures.front.cause written.output written.notes;
  generated = λ o asked n proper counted carried. inr (inl refl);
  refused_option = λ o asked n proper counted name fault. inr (inl refl);
}
