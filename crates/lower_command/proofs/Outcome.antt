-- From the answer that is due to the table of statuses.
use Rattle.std.proofs.Common.{◌≡◌, ◌⊎◌, false, nat_eq, ◌+◌, ◌^◌, ◌<◌, ◌≤◌, ℕ, List, [], length, take, Option, Some, None, String, codes, inl, inr, refl, sym, ◌∙◌, ap, subst, arith, length-append, ◌++◌}
use Rattle.std.proofs.lemmas.List.{take_all}
use Rattle.std.proofs.lemmas.Bool.{eq-eqb}
use Rattle.std.specs.declared.alloc.Global.{Global}
use Rattle.std.specs.Io.KnownBytes.{append_known}
use Rattle.es_tree.specs.Options.{first_fault}
use Rattle.es_tree.specs.declared.error.LowerError.{LowerError}
use Rattle.es_tree.specs.declared.error.LowerError.TheVariants.{Option as e-Option}
use Rattle.es_tree.specs.declared.error.OptionName.{OptionName}
use Rattle.lower_temporaries.specs.declared.warning.Warning.{Warning}
use Rattle.lower_command.specs.declared.answer.Answer.{Answer}
use Rattle.lower_command.specs.declared.answer.Answer.TheVariants.{Lowered, Generated, Refused, Words, ReadFault, TooLong}
use Rattle.lower_command.specs.declared.answer.TheConstants.{DONE, OUT_OF_MEMORY, REFUSED, WORDS, TOO_LONG}
use Rattle.lower_command.specs.Answer.{output_text, notes_text, refusal_text, status_of, warning_lines}
use Rattle.lower_command.specs.Ends.{HasFault, ReadWhole, ReadFront, End}
use Rattle.es_tree.specs.declared.options.EnvOptions.{EnvOptions}
use Rattle.lower_driver.specs.Sources.{IsCauseUnder}
use Rattle.lower_command.specs.Job.{IsTakenSource}
use Rattle.lower_command.specs.Words.{AreProper, Asks, generate_of, has_flag}
use Rattle.lower_editions.proofs.Walked.{none_asked}
use Rattle.lower_driver.proofs.CopiedOptions.{copied-fault}
use Rattle.lower_command.proofs.SameOptions.{same_options}
use Rattle.lower_command.proofs.Causes.{taken_as, not_refused, one_cause}
use Rattle.lower_command.specs.Run.{AskForInput, IsGeneratedAnswer, IsJobAnswer, WasWhole, WasAnswered, WasGenerated, IsDue, Took, TookFront, Ends, Gave, Table, HasInput, Causes}

-- What is due, where the input tells its bytes.

whole_read : (told now : Option (List ℕ)) (bytes read : List ℕ) → told ≡ Some bytes → ReadWhole told now read → bytes ≡ read
whole_read told now bytes read is whole = (subst (λ known. ReadWhole known now read) is whole).0

told_whole : {P : List ℕ → Type 0} (old new : End) (bytes : List ℕ) → old.bytes ≡ Some bytes → WasWhole old new P → (length bytes ≤ 2 ^ 26) × P bytes
told_whole {P} old new bytes told whole =
    let same = whole_read old.bytes new.bytes bytes whole.0 told whole.1 in
    (omega (arith, ap length same, whole.2), subst P (sym same) whole.3)

front_fits : (told now : Option (List ℕ)) (bytes : List ℕ) (count : ℕ) → told ≡ Some bytes → ReadFront told now count → count ≤ length bytes
front_fits told None bytes count is front = absurd (cc (is, front.2))
front_fits told (Some left) bytes count is front =
    let same : bytes ≡ front.0 ++ left = cc (is, front.2) in
    omega (arith, ap length same, length-append front.0 left, front.1)

-- what the job gave for bytes that the input tells
told_answer : (answer : Answer) (words : List (String Global)) (old new : End) (bytes : List ℕ) → old.bytes ≡ Some bytes → (w : WasAnswered answer words old new) → (length bytes ≤ 2 ^ 26) × IsJobAnswer w.options answer bytes
told_answer answer words old new bytes told w = told_whole {P = IsJobAnswer w.options answer} old new bytes told w.whole

-- the answer of the job to what was read is due
pub is_due : (o : EnvOptions) (answer : Answer) (words : List (String Global)) (old new : End) (bytes : List ℕ) → AskForInput words → Asks words o
    → ReadWhole old.bytes new.bytes bytes → length bytes ≤ 2 ^ 26 → IsJobAnswer o answer bytes → IsDue answer words old new
is_due o (Lowered texts) words old new bytes ask asked read short job = (ask, record { options = o; asked = asked; whole = (bytes, read, short, job) })
is_due o (Generated line) words old new bytes ask asked read short job = absurd job
is_due o (Refused text) words old new bytes ask asked read short job = inl (ask, record { options = o; asked = asked; whole = (bytes, read, short, job) })
is_due o Words words old new bytes ask asked read short job = absurd job
is_due o ReadFault words old new bytes ask asked read short job = absurd job
is_due o TooLong words old new bytes ask asked read short job = absurd job

-- and so is its answer to a made script
pub generated_due : (o : EnvOptions) (answer : Answer) (words : List (String Global)) (input : End) (n : ℕ) → AreProper words → Asks words o
    → generate_of words ≡ Some n → IsGeneratedAnswer o n answer → IsDue answer words input input
generated_due o (Lowered texts) words input n proper asked counted job = absurd job
generated_due o (Generated line) words input n proper asked counted job =
    (record { proper = proper; count = n; counted = counted; options = o; asked = asked; gave = job }, refl)
generated_due o (Refused text) words input n proper asked counted job =
    inr (record { proper = proper; count = n; counted = counted; options = o; asked = asked; gave = job }, refl)
generated_due o Words words input n proper asked counted job = absurd job
generated_due o ReadFault words input n proper asked counted job = absurd job
generated_due o TooLong words input n proper asked counted job = absurd job

-- words that ask to lower the input ask for no made script
no_count : {P : Type 0} (words : List (String Global)) (n : ℕ) → generate_of words ≡ None → generate_of words ≡ Some n → P
no_count words n plain counted = let both : Some n ≡ None = sym counted ∙ plain in absurd (cc)

-- what is refused, by what the words ask for
refused_input : (text : String Global) (words : List (String Global)) (old new : End) → generate_of words ≡ None → IsDue (Refused text) words old new
    → WasAnswered (Refused text) words old new
refused_input text words old new plain (inl due) = due.1
refused_input text words old new plain (inr due) = no_count words due.0.count plain due.0.counted

refused_script : (text : String Global) (words : List (String Global)) (old new : End) (n : ℕ) → generate_of words ≡ Some n → IsDue (Refused text) words old new
    → WasGenerated (Refused text) words
refused_script text words old new n counted (inl due) = no_count words n due.0.plain counted
refused_script text words old new n counted (inr due) = due.0

-- The status is the one that has to come.

is_words : (answer : Answer) (words : List (String Global)) (old new : End) → IsDue answer words old new → ¬ AreProper words → status_of answer ≡ WORDS
is_words (Lowered texts) words old new due improper = absurd (improper due.0.proper)
is_words (Generated line) words old new due improper = absurd (improper due.0.proper)
is_words (Refused text) words old new (inl due) improper = absurd (improper due.0.proper)
is_words (Refused text) words old new (inr due) improper = absurd (improper due.0.proper)
is_words Words words old new due improper = refl
is_words ReadFault words old new due improper = absurd (improper due.0.proper)
is_words TooLong words old new due improper = absurd (improper due.0.proper)

is_long : (answer : Answer) (words : List (String Global)) (old new : Ends) (bytes : List ℕ) → IsDue answer words old.input new.input
    → HasInput words old new bytes → 2 ^ 26 < length bytes → status_of answer ≡ TOO_LONG
is_long (Lowered texts) words old new bytes due has long = absurd (omega (arith, (told_answer _ words old.input new.input bytes has.told due.1).0))
is_long (Generated line) words old new bytes due has long = no_count words due.0.count has.plain due.0.counted
is_long (Refused text) words old new bytes due has long =
    let answered = refused_input text words old.input new.input has.plain due in
    absurd (omega (arith, (told_answer _ words old.input new.input bytes has.told answered).0))
is_long Words words old new bytes due has long = absurd (due.0 has.proper)
is_long ReadFault words old new bytes due has long = absurd (has.no_fault due.1)
is_long TooLong words old new bytes due has long = refl

is_refused : (o : EnvOptions) (answer : Answer) (words : List (String Global)) (old new : Ends) (bytes : List ℕ) → IsDue answer words old.input new.input
    → Asks words o → HasInput words old new bytes → length bytes ≤ 2 ^ 26 → ¬ IsTakenSource o bytes → status_of answer ≡ REFUSED
is_refused o (Lowered texts) words old new bytes due asked has short other =
    let source = (told_answer (Lowered texts) words old.input new.input bytes has.told due.1).1.0 in
    absurd (other (taken_as due.1.options o bytes (same_options words due.1.options o due.1.asked asked) source))
is_refused o (Generated line) words old new bytes due asked has short other = no_count words due.0.count has.plain due.0.counted
is_refused o (Refused text) words old new bytes due asked has short other = refl
is_refused o Words words old new bytes due asked has short other = absurd (due.0 has.proper)
is_refused o ReadFault words old new bytes due asked has short other = absurd (has.no_fault due.1)
is_refused o TooLong words old new bytes due asked has short other = absurd (omega (arith, front_fits old.input.bytes new.input.bytes bytes (2 ^ 26 + 1) has.told due.1))

is_done : (o : EnvOptions) (answer : Answer) (words : List (String Global)) (old new : Ends) (bytes : List ℕ) → IsDue answer words old.input new.input
    → Asks words o → HasInput words old new bytes → length bytes ≤ 2 ^ 26 → IsTakenSource o bytes → status_of answer ≡ DONE
is_done o (Lowered texts) words old new bytes due asked has short source = refl
is_done o (Generated line) words old new bytes due asked has short source = refl
is_done o (Refused text) words old new bytes due asked has short source =
    let answered = refused_input text words old.input new.input has.plain due in
    let with_line = (told_answer (Refused text) words old.input new.input bytes has.told answered).1 in
    absurd (not_refused answered.options o bytes with_line.error (same_options words answered.options o answered.asked asked) with_line.cause source)
is_done o Words words old new bytes due asked has short source = absurd (due.0 has.proper)
is_done o ReadFault words old new bytes due asked has short source = absurd (has.no_fault due.1)
is_done o TooLong words old new bytes due asked has short source = absurd (omega (arith, front_fits old.input.bytes new.input.bytes bytes (2 ^ 26 + 1) has.told due.1))

is_generated : (o : EnvOptions) (answer : Answer) (words : List (String Global)) (old new : End) (n : ℕ) → IsDue answer words old new
    → Asks words o → AreProper words → generate_of words ≡ Some n → first_fault o ≡ None → status_of answer ≡ DONE
is_generated o (Lowered texts) words old new n due asked proper counted carried = refl
is_generated o (Generated line) words old new n due asked proper counted carried = refl
is_generated o (Refused text) words old new n due asked proper counted carried =
    let script = refused_script text words old new n counted due in
    let both : Some script.gave.name ≡ None = sym script.gave.first ∙ copied-fault o script.options (same_options words script.options o script.asked asked) ∙ carried in
    absurd (cc)
is_generated o Words words old new n due asked proper counted carried = absurd (due.0 proper)
is_generated o ReadFault words old new n due asked proper counted carried = no_count words n due.0.plain counted
is_generated o TooLong words old new n due asked proper counted carried = no_count words n due.0.plain counted

-- one number is no other
other : {P : Type 0} {m n : ℕ} → nat_eq m n ≡ false → m ≡ n → P
other {P} {m} {n} differ same = absurd (cc (sym differ, eq-eqb m n same))

-- nothing is due to the notes where nothing is said there
pub quiet : (answer : Answer) (words : List (String Global)) (old new : End) → IsDue answer words old new
    → (status_of answer ≡ OUT_OF_MEMORY) ⊎ ((status_of answer ≡ DONE) × (has_flag words (codes "bigint-warnings") ≡ false) × (has_flag words (codes "name-warnings") ≡ false)) → notes_text answer ≡ []
quiet (Lowered texts) words old new due (inl memory) = other refl memory
quiet (Lowered texts) words old new due (inr done) =
    let text = due.1.whole.3.1 in
    let asked = due.1.asked in
    text.warned ∙ ap (λ (warnings : List Warning). warning_lines warnings) (none_asked due.1.options.es2020 text.source (asked.bigint_warnings ∙ done.1) (asked.name_warnings ∙ done.2))
quiet (Generated line) words old new due when = refl
quiet (Refused text) words old new due (inl memory) = other refl memory
quiet (Refused text) words old new due (inr done) = other refl done.0
quiet Words words old new due (inl memory) = other refl memory
quiet Words words old new due (inr done) = other refl done.0
quiet ReadFault words old new due (inl memory) = other refl memory
quiet ReadFault words old new due (inr done) = other refl done.0
quiet TooLong words old new due (inl memory) = other refl memory
quiet TooLong words old new due (inr done) = other refl done.0

module _ (words : List (String Global)) (old new : Ends) where
  -- an answer that was given whole has its status, and no other
  pub table_gave : (answer : Answer) → Gave answer words old new → Table words old new (status_of answer)
  table_gave (Lowered texts) gave = record {
    done = λ _ _. (texts, gave);
    done_generated = λ _ n counted. no_count words n gave.due.0.plain counted;
    refused_input = other refl;
    refused_words = other refl;
    read_fault = other refl;
    write_fault = other refl;
    out_of_memory = other refl;
    too_long = other refl;
    known = omega arith;
  }
  table_gave (Generated line) gave = record {
    done = λ _ plain. no_count words gave.due.0.count plain gave.due.0.counted;
    done_generated = λ _ _ _. (line, gave);
    refused_input = other refl;
    refused_words = other refl;
    read_fault = other refl;
    write_fault = other refl;
    out_of_memory = other refl;
    too_long = other refl;
    known = omega arith;
  }
  table_gave (Refused text) gave = record {
    done = other refl;
    done_generated = other refl;
    refused_input = λ _. (text, gave);
    refused_words = other refl;
    read_fault = other refl;
    write_fault = other refl;
    out_of_memory = other refl;
    too_long = other refl;
    known = omega arith;
  }
  table_gave Words gave = record {
    done = other refl;
    done_generated = other refl;
    refused_input = other refl;
    refused_words = λ _. gave;
    read_fault = other refl;
    write_fault = other refl;
    out_of_memory = other refl;
    too_long = other refl;
    known = omega arith;
  }
  table_gave ReadFault gave = record {
    done = other refl;
    done_generated = other refl;
    refused_input = other refl;
    refused_words = other refl;
    read_fault = λ _. gave;
    write_fault = other refl;
    out_of_memory = other refl;
    too_long = other refl;
    known = omega arith;
  }
  table_gave TooLong gave = record {
    done = other refl;
    done_generated = other refl;
    refused_input = other refl;
    refused_words = other refl;
    read_fault = other refl;
    write_fault = other refl;
    out_of_memory = other refl;
    too_long = λ _. gave;
    known = omega arith;
  }

  -- an input that is refused for a cause is given the line of that cause
  told_cause : (o : EnvOptions) (answer : Answer) → Gave answer words old new → Asks words o → (bytes : List ℕ) → HasInput words old new bytes → length bytes ≤ 2 ^ 26 → (error : LowerError) → IsCauseUnder o bytes error → (status_of answer ≡ REFUSED) × Took old.notes new.notes (refusal_text error)
  told_cause o (Lowered texts) gave asked bytes has short error cause =
      let due = gave.due.1 in
      absurd (not_refused o due.options bytes error (same_options words o due.options asked due.asked) cause (told_answer (Lowered texts) words old.input new.input bytes has.told due).1.0)
  told_cause o (Generated line) gave asked bytes has short error cause = no_count words gave.due.0.count has.plain gave.due.0.counted
  told_cause o (Refused text) gave asked bytes has short error cause =
      let due = refused_input text words old.input new.input has.plain gave.due in
      let with_line = (told_answer (Refused text) words old.input new.input bytes has.told due).1 in
      let one = one_cause o due.options bytes with_line.error error (same_options words o due.options asked due.asked) with_line.cause cause in
      (refl, subst (Took old.notes new.notes) (with_line.line_is ∙ one) gave.taken.notes)
  told_cause o Words gave asked bytes has short error cause = absurd (gave.due.0 has.proper)
  told_cause o ReadFault gave asked bytes has short error cause = absurd (has.no_fault gave.due.1)
  told_cause o TooLong gave asked bytes has short error cause = absurd (omega (arith, front_fits old.input.bytes new.input.bytes bytes (2 ^ 26 + 1) has.told gave.due.1))

  -- and where a made script is asked for, the first option that isn't done is told
  told_option : (o : EnvOptions) (answer : Answer) → Gave answer words old new → Asks words o → (n : ℕ) → AreProper words → generate_of words ≡ Some n → (name : OptionName) → first_fault o ≡ Some name → (status_of answer ≡ REFUSED) × Took old.notes new.notes (refusal_text (e-Option name))
  told_option o (Lowered texts) gave asked n proper counted name first = no_count words n gave.due.0.plain counted
  told_option o (Generated line) gave asked n proper counted name first =
      let script = gave.due.0 in
      let both : Some name ≡ None = sym first ∙ copied-fault script.options o (same_options words o script.options asked script.asked) ∙ script.gave.0 in
      absurd (cc)
  told_option o (Refused text) gave asked n proper counted name first =
      let script = refused_script text words old.input new.input n counted gave.due in
      let both : Some script.gave.name ≡ Some name = sym script.gave.first ∙ copied-fault o script.options (same_options words script.options o script.asked asked) ∙ first in
      let same : script.gave.name ≡ name = cc in
      (refl, subst (Took old.notes new.notes) (script.gave.line_is ∙ ap (λ (x : OptionName). refusal_text (e-Option x)) same) gave.taken.notes)
  told_option o Words gave asked n proper counted name first = absurd (gave.due.0 proper)
  told_option o ReadFault gave asked n proper counted name first = no_count words n gave.due.0.plain counted
  told_option o TooLong gave asked n proper counted name first = no_count words n gave.due.0.plain counted

  pub causes_gave : (answer : Answer) → Gave answer words old new → Causes words old new (status_of answer)
  causes_gave answer gave = let due = gave.due in record {
    refused_words = λ improper. inl (is_words answer words old.input new.input due improper);
    too_long = λ bytes has long. inl (is_long answer words old new bytes due has long);
    refused_input = λ o asked bytes has short other. inl (is_refused o answer words old new bytes due asked has short other);
    told = λ o asked bytes has short error cause. inl (told_cause o answer gave asked bytes has short error cause);
    done = λ o asked bytes has _ short source. inl (is_done o answer words old new bytes due asked has short source);
    generated = λ o asked n proper counted carried. inl (is_generated o answer words old.input new.input n due asked proper counted carried);
    refused_option = λ o asked n proper counted name first. inl (told_option o answer gave asked n proper counted name first);
  }

-- the output took all, and a fault left the notes with the front of their text
pub front_of_notes : (answer : Answer) (old_output new_output old_notes new_notes : End) (count : ℕ)
    → Took old_output new_output (output_text answer) → count ≤ length (notes_text answer)
    → Took old_notes new_notes (take count (notes_text answer)) → HasFault old_notes.faults new_notes.faults
    → TookFront answer old_output new_output old_notes new_notes
front_of_notes answer old_output new_output old_notes new_notes count output within notes fault = record {
  output_count = length (output_text answer);
  output_within = omega arith;
  output = output ∙ ap (append_known old_output.bytes) (sym (take_all (length (output_text answer)) (output_text answer) (omega arith)));
  notes_count = count;
  notes_within = within;
  notes = notes;
  in_order = inl refl;
  cause = inr fault;
}
