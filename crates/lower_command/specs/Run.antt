-- What a run of the tool does: the table of its statuses.
use Rattle.std.specs.Prelude.{◌≡◌, ◌⊎◌, ◌+◌, ◌^◌, ◌<◌, ◌≤◌, ℕ, List, length, take, None, Some, String, string_bytes}
use Rattle.std.specs.declared.alloc.Global.{Global}
use Rattle.std.specs.Io.KnownBytes.{append_known}
use Rattle.es_tree.specs.Options.{first_fault}
use Rattle.es_tree.specs.declared.error.LowerError.{LowerError}
use Rattle.es_tree.specs.declared.error.LowerError.TheVariants.{Option as e-Option}
use Rattle.es_tree.specs.declared.error.OptionName.{OptionName}
use Rattle.lower_command.specs.declared.answer.Answer.{Answer}
use Rattle.lower_command.specs.declared.answer.Answer.TheVariants.{Lowered, Generated, Refused, Words, ReadFault, TooLong}
use Rattle.lower_command.specs.declared.answer.Texts.{Texts}
use Rattle.lower_command.specs.declared.answer.TheConstants.{DONE, REFUSED, WORDS, READ_FAULT, WRITE_FAULT, OUT_OF_MEMORY, TOO_LONG}
use Rattle.lower_command.specs.Answer.{output_text, notes_text, refusal_text}
use Rattle.lower_command.specs.Ends.{HasFault, ReadWhole, ReadFront, End}
use Rattle.es_tree.specs.declared.options.EnvOptions.{EnvOptions}
use Rattle.lower_driver.specs.Sources.{IsCauseUnder}
use Rattle.lower_command.specs.Job.{IsGeneratedLine, IsLoweredText, IsTakenSource}
use Rattle.lower_command.specs.Words.{AreProper, Asks, generate_of}

-- an input of these bytes is refused under these options, and this is the line of the cause
pub record IsRefusedWith (o : EnvOptions) (bytes text : List ℕ) : Type 0 where
  pub error : LowerError
  pub cause : IsCauseUnder o bytes error
  pub line_is : text ≡ refusal_text error

-- the job gives this answer to an input of these bytes
abbrev pub IsJobAnswer : EnvOptions → Answer → List ℕ → Type 0
IsJobAnswer o (Lowered texts) bytes = IsTakenSource o bytes × IsLoweredText o bytes (string_bytes texts.text) (string_bytes texts.warnings)
IsJobAnswer o (Generated line) bytes = ⊥
IsJobAnswer o (Refused text) bytes = IsRefusedWith o bytes (string_bytes text)
IsJobAnswer o Words bytes = ⊥
IsJobAnswer o ReadFault bytes = ⊥
IsJobAnswer o TooLong bytes = ⊥

-- the input was read to its end within 2^26 bytes, and P holds of them
abbrev pub WasWhole : End → End → (List ℕ → Type 0) → Type 0
WasWhole old new P = (bytes : List ℕ) × ReadWhole old.bytes new.bytes bytes × (length bytes ≤ 2 ^ 26) × P bytes

-- the words are proper, and ask to lower the input
pub record AskForInput (words : List (String Global)) : Type 0 where
  pub proper : AreProper words
  pub plain : generate_of words ≡ None

-- the job gave this answer to an input that was read to its end, under the options that the words ask for
pub record WasAnswered (answer : Answer) (words : List (String Global)) (old new : End) : Type 0 where
  pub options : EnvOptions
  pub asked : Asks words options
  pub whole : WasWhole old new (IsJobAnswer options answer)

-- no made script is lowered under these options, since they ask for what isn't done, and this is the line of that cause
pub record IsRefusedOption (o : EnvOptions) (text : List ℕ) : Type 0 where
  pub name : OptionName
  pub first : first_fault o ≡ Some name
  pub line_is : text ≡ refusal_text (e-Option name)

-- the job gives this answer to the made script of so many statements
abbrev pub IsGeneratedAnswer : EnvOptions → ℕ → Answer → Type 0
IsGeneratedAnswer o n (Lowered texts) = ⊥
IsGeneratedAnswer o n (Generated line) = (first_fault o ≡ None) × IsGeneratedLine o n (string_bytes line)
IsGeneratedAnswer o n (Refused text) = IsRefusedOption o (string_bytes text)
IsGeneratedAnswer o n Words = ⊥
IsGeneratedAnswer o n ReadFault = ⊥
IsGeneratedAnswer o n TooLong = ⊥

-- the words are proper and ask for a made script, and the job gave this answer to it, under the options that they ask for
pub record WasGenerated (answer : Answer) (words : List (String Global)) : Type 0 where
  pub proper : AreProper words
  pub count : ℕ
  pub counted : generate_of words ≡ Some count
  pub options : EnvOptions
  pub asked : Asks words options
  pub gave : IsGeneratedAnswer options count answer

-- this answer is due to these words and to what was read of the input
abbrev pub IsDue : Answer → List (String Global) → End → End → Type 0
IsDue (Lowered texts) words old new = AskForInput words × WasAnswered (Lowered texts) words old new
IsDue (Generated line) words old new = WasGenerated (Generated line) words × (new ≡ old)
IsDue (Refused text) words old new =
    (AskForInput words × WasAnswered (Refused text) words old new) ⊎ (WasGenerated (Refused text) words × (new ≡ old))
IsDue Words words old new = (¬ AreProper words) × (new ≡ old)
IsDue ReadFault words old new = AskForInput words × HasFault old.faults new.faults
IsDue TooLong words old new = AskForInput words × ReadFront old.bytes new.bytes (2 ^ 26 + 1)

-- where an end tells its bytes, it took these
abbrev pub Took : End → End → List ℕ → Type 0
Took old new bytes = new.bytes ≡ append_known old.bytes bytes

-- output and notes took their texts
pub record TookAll (answer : Answer) (old_output new_output old_notes new_notes : End) : Type 0 where
  pub output : Took old_output new_output (output_text answer)
  pub notes : Took old_notes new_notes (notes_text answer)

-- a fault of one of them left each with the front of its text
pub record TookFront (answer : Answer) (old_output new_output old_notes new_notes : End) : Type 0 where
  pub output_count : ℕ
  pub output_within : output_count ≤ length (output_text answer)
  pub output : Took old_output new_output (take output_count (output_text answer))
  pub notes_count : ℕ
  pub notes_within : notes_count ≤ length (notes_text answer)
  pub notes : Took old_notes new_notes (take notes_count (notes_text answer))
  -- the notes get nothing before the output has its whole text
  pub in_order : (output_count ≡ length (output_text answer)) ⊎ (notes_count ≡ 0)
  pub cause : HasFault old_output.faults new_output.faults ⊎ HasFault old_notes.faults new_notes.faults

-- the three ends at one moment
pub record Ends : Type 0 where
  pub input : End
  pub output : End
  pub notes : End

abbrev pub ends : End → End → End → Ends
ends input output notes = record { input = input; output = output; notes = notes }

-- the answer is due, and was given whole
pub record Gave (answer : Answer) (words : List (String Global)) (old new : Ends) : Type 0 where
  pub due : IsDue answer words old.input new.input
  pub taken : TookAll answer old.output new.output old.notes new.notes

-- the answer is due, and was cut short
pub record GaveFront (answer : Answer) (words : List (String Global)) (old new : Ends) : Type 0 where
  pub due : IsDue answer words old.input new.input
  pub taken : TookFront answer old.output new.output old.notes new.notes

-- The table: what each status says.
pub record Table (words : List (String Global)) (old new : Ends) (status : ℕ) : Type 0 where
  pub done : status ≡ DONE → generate_of words ≡ None → (texts : Texts) × Gave (Lowered texts) words old new
  pub done_generated : status ≡ DONE → (n : ℕ) → generate_of words ≡ Some n → (line : String Global) × Gave (Generated line) words old new
  pub refused_input : status ≡ REFUSED → (text : String Global) × Gave (Refused text) words old new
  pub refused_words : status ≡ WORDS → Gave Words words old new
  pub read_fault : status ≡ READ_FAULT → Gave ReadFault words old new
  pub write_fault : status ≡ WRITE_FAULT → (answer : Answer) × GaveFront answer words old new
  pub out_of_memory : status ≡ OUT_OF_MEMORY → (new.output ≡ old.output) × (new.notes ≡ old.notes)
  pub too_long : status ≡ TOO_LONG → Gave TooLong words old new
  -- there is no other
  pub known : status ≤ 6

-- the words ask to lower the input, which tells that these bytes are left and doesn't fail
pub record HasInput (words : List (String Global)) (old new : Ends) (bytes : List ℕ) : Type 0 where
  pub proper : AreProper words
  pub plain : generate_of words ≡ None
  pub told : old.input.bytes ≡ Some bytes
  pub no_fault : ¬ HasFault old.input.faults new.input.faults

-- neither output nor notes failed
pub record WasWritten (old new : Ends) : Type 0 where
  pub output : ¬ HasFault old.output.faults new.output.faults
  pub notes : ¬ HasFault old.notes.faults new.notes.faults

-- When a status has to come. Only a fault of writing and want of memory take its place.
pub record Causes (words : List (String Global)) (old new : Ends) (status : ℕ) : Type 0 where
  pub refused_words : ¬ AreProper words → (status ≡ WORDS) ⊎ ((status ≡ WRITE_FAULT) ⊎ (status ≡ OUT_OF_MEMORY))
  pub too_long : (bytes : List ℕ) → HasInput words old new bytes → 2 ^ 26 < length bytes
      → (status ≡ TOO_LONG) ⊎ ((status ≡ WRITE_FAULT) ⊎ (status ≡ OUT_OF_MEMORY))
  pub refused_input : (o : EnvOptions) → Asks words o → (bytes : List ℕ) → HasInput words old new bytes → length bytes ≤ 2 ^ 26 → ¬ IsTakenSource o bytes
      → (status ≡ REFUSED) ⊎ ((status ≡ WRITE_FAULT) ⊎ (status ≡ OUT_OF_MEMORY))
  -- with the line of the cause, whichever holds
  pub told : (o : EnvOptions) → Asks words o → (bytes : List ℕ) → HasInput words old new bytes → length bytes ≤ 2 ^ 26 → (error : LowerError) → IsCauseUnder o bytes error
      → ((status ≡ REFUSED) × Took old.notes new.notes (refusal_text error)) ⊎ ((status ≡ WRITE_FAULT) ⊎ (status ≡ OUT_OF_MEMORY))
  -- without a fault, a program that is taken is done
  pub done : (o : EnvOptions) → Asks words o → (bytes : List ℕ) → HasInput words old new bytes → WasWritten old new → length bytes ≤ 2 ^ 26 → IsTakenSource o bytes
      → (status ≡ DONE) ⊎ (status ≡ OUT_OF_MEMORY)
  -- a made script is lowered under all options that ask for nothing that isn't done
  pub generated : (o : EnvOptions) → Asks words o → (n : ℕ) → AreProper words → generate_of words ≡ Some n → first_fault o ≡ None
      → (status ≡ DONE) ⊎ ((status ≡ WRITE_FAULT) ⊎ (status ≡ OUT_OF_MEMORY))
  -- and under others the first such option is told
  pub refused_option : (o : EnvOptions) → Asks words o → (n : ℕ) → AreProper words → generate_of words ≡ Some n → (name : OptionName) → first_fault o ≡ Some name
      → ((status ≡ REFUSED) × Took old.notes new.notes (refusal_text (e-Option name))) ⊎ ((status ≡ WRITE_FAULT) ⊎ (status ≡ OUT_OF_MEMORY))

-- no count of faults falls
pub record FaultsStay (old new : Ends) : Type 0 where
  pub input : old.input.faults ≤ new.input.faults
  pub output : old.output.faults ≤ new.output.faults
  pub notes : old.notes.faults ≤ new.notes.faults
