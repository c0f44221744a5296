-- What a run answers: its status, and the texts for the output and the notes.
use Rattle.std.specs.Prelude.{◌∷◌, [], ◌++◌, ℕ, List, string_bytes, codes}
use Rattle.std.specs.Fmt.{decimal}
use Rattle.std.specs.List.{flat_map}
use Rattle.es_tree.specs.Causes.{option_name, rule_name, unsupported_name}
use Rattle.es_tree.specs.declared.error.LowerError.{LowerError}
use Rattle.es_tree.specs.declared.error.LowerError.TheVariants.{Json, Option, TooLarge, TooDeep, Shape, Invalid, Unsupported, OutOfMemory}
use Rattle.lower_temporaries.specs.declared.warning.Warning.{Warning}
use Rattle.lower_temporaries.specs.declared.warning.WarningKind.{WarningKind}
use Rattle.lower_temporaries.specs.declared.warning.WarningKind.TheVariants.{BigInt, ModuleName}
use Rattle.lower_command.specs.declared.answer.Answer.{Answer}
use Rattle.lower_command.specs.declared.answer.Answer.TheVariants.{Lowered, Generated, Refused, Words, ReadFault, TooLong}
use Rattle.lower_command.specs.declared.answer.TheConstants.{DONE, REFUSED, WORDS, READ_FAULT, TOO_LONG}

abbrev pub output_text : Answer → List ℕ
output_text (Lowered texts) = string_bytes texts.text
output_text (Generated line) = string_bytes line
output_text (Refused text) = []
output_text Words = []
output_text ReadFault = []
output_text TooLong = []

-- a line, and its newline
abbrev pub line : List ℕ → List ℕ
line text = text ++ 10 ∷ []

-- the line for an input that is refused for this cause
abbrev pub refusal_text : LowerError → List ℕ
refusal_text Json = line (codes "lower: json")
refusal_text (Option name) = line (codes "lower: option " ++ option_name name)
refusal_text (TooLarge count) = line (codes "lower: too large " ++ decimal count)
refusal_text (TooDeep depth) = line (codes "lower: too deep " ++ decimal depth)
refusal_text (Shape path) = line (codes "lower: shape " ++ string_bytes path)
refusal_text (Invalid rule id) = line (codes "lower: invalid " ++ rule_name rule ++ codes " at node " ++ decimal id.0)
refusal_text (Unsupported kind id) = line (codes "lower: unsupported " ++ unsupported_name kind ++ codes " at node " ++ decimal id.0)
refusal_text OutOfMemory = []

-- what a warning is of
abbrev pub warning_name : WarningKind → List ℕ
warning_name BigInt = codes "bigint"
warning_name ModuleName = codes "module name"

-- the line for a warning, with the place in the source text
abbrev pub warning_line : Warning → List ℕ
warning_line w = line (codes "warning: " ++ warning_name w.kind ++ codes " at " ++ decimal w.span.start ++ codes ".." ++ decimal w.span.end)

abbrev pub warning_lines : List Warning → List ℕ
warning_lines warnings = flat_map warning_line warnings

-- the line of counts: statements of the made script, its nodes, those of the written program, fresh names and warnings
abbrev pub generated_line : ℕ → ℕ → ℕ → ℕ → ℕ → List ℕ
generated_line statements before after names warnings =
    line
    (codes "generated " ++ decimal statements ++ codes " nodes " ++ decimal before ++ codes " to " ++ decimal after
    ++ codes " temporaries " ++ decimal names ++ codes " warnings " ++ decimal warnings)

abbrev pub notes_text : Answer → List ℕ
notes_text (Lowered texts) = string_bytes texts.warnings
notes_text (Generated line) = []
notes_text (Refused text) = string_bytes text
notes_text Words = line (codes "lower: words")
notes_text ReadFault = line (codes "lower: read fault")
notes_text TooLong = line (codes "lower: input too long")

abbrev pub status_of : Answer → ℕ
status_of (Lowered texts) = DONE
status_of (Generated line) = DONE
status_of (Refused text) = REFUSED
status_of Words = WORDS
status_of ReadFault = READ_FAULT
status_of TooLong = TOO_LONG
