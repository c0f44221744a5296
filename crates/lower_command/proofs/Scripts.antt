-- Of a made script: why it is refused, and its line of counts.
use Rattle.std.proofs.Common.{◌≡◌, ℕ, List, Some, None, refl}
use Rattle.es_tree.specs.declared.error.LowerError.{LowerError}
use Rattle.es_tree.specs.declared.error.LowerError.TheVariants.{Option as e-Option, OutOfMemory, Unsupported}
use Rattle.es_tree.specs.declared.error.UnsupportedKind.{UnsupportedKind}
use Rattle.es_tree.specs.declared.options.EnvOptions.{EnvOptions}
use Rattle.lower_driver.specs.UnsupportedPrograms.{IsTreeCauseOrMemory}
use Rattle.lower_driver.proofs.Stages.{finds-one}
use Rattle.lower_command.specs.Answer.{generated_line, refusal_text}
use Rattle.lower_command.specs.Generated.{generated}
use Rattle.lower_command.specs.Refusals.{IsNoMemory}
use Rattle.lower_command.specs.Run.{IsRefusedOption}
use Rattle.lower_command.proofs.GeneratedShapes.{generated-finds}

one_answer : (x : UnsupportedKind × ℕ) → Some x ≡ None → ⊥
one_answer x both = cc

-- options that ask for what isn't done are the one cause
pub script_refused : (o : EnvOptions) (n : ℕ) (error : LowerError) (text : List ℕ) → IsTreeCauseOrMemory o (generated n) error → text ≡ refusal_text error
    → (IsNoMemory error → ⊥) → IsRefusedOption o text
script_refused o n (e-Option name) text cause told memory = record { name = name; first = cause; line_is = told }
script_refused o n (Unsupported kind id) text cause told memory =
    absurd (one_answer (kind, id.0) (finds-one o (generated n) (Some (kind, id.0)) None cause.1 (generated-finds o n)))
script_refused o n OutOfMemory text cause told memory = absurd (memory tt)
script_refused o n _ text cause told memory = absurd cause

-- the line is told by its numbers
pub same_line : (n b i j k p q r : ℕ) → i ≡ p → j ≡ q → k ≡ r → generated_line n b i j k ≡ generated_line n b p q r
same_line n b i j k p q r after names warnings = rw (after, names, warnings) refl
