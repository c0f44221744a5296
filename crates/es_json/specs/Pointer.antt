-- The text of a path: a JSON pointer (RFC 6901, section 3).
use Rattle.std.specs.Prelude.{◌++◌, ◌==◌, [], ◌∷◌, if◌then◌else◌}
use Rattle.std.specs.Fmt.{decimal}
use Rattle.es_tree.specs.Words.{Text}
use Rattle.es_tree.specs.Table.{field_text}
use Rattle.es_json.specs.declared.error.Step.{Step}
use Rattle.es_json.specs.declared.error.Step.TheVariants.{Field as s-Field, Index as s-Index}
use Rattle.es_json.specs.Faults.{Path}

-- `~` is written `~0`, and `/` is written `~1`
abbrev pub escaped : Text → Text
escaped [] = []
escaped (c ∷ cs) = (if c == 126 then 126 ∷ 48 ∷ [] else (if c == 47 then 126 ∷ 49 ∷ [] else c ∷ [])) ++ escaped cs

-- the name of a field, or the index of an item in decimal
abbrev pub step_text : Step → Text
step_text (s-Field f) = escaped (field_text f)
step_text (s-Index i) = decimal i

abbrev pub pointer : Path → Text
pointer [] = []
pointer (step ∷ path) = 47 ∷ step_text step ++ pointer path
