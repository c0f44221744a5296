-- What stands in the fields of a program and of a declaration, which are no other number of fields.
use Rattle.std.proofs.Common.{◌≡◌, List, [], ◌∷◌}
use Rattle.std.specs.Prelude.{true}
use Rattle.es_tree.specs.Arity.{Fits, Slot, list, statement_list}
use Rattle.es_tree.specs.Tree.{Fields, done, many, statements, ◌then◌}
use Rattle.lower_using_modules.specs.Parts.{hold_default, hold_using, is_list}

abbrev pub program_places : List Slot
program_places = list ∷ statement_list ∷ []

pub using-fits : (fs : Fields) → hold_using fs ≡ true → Fits program_places fs
using-fits (many ds then statements ts then done) h = (tt, (tt, tt))
using-fits _ h = absurd (cc h)

pub default-fits : (fs : Fields) → hold_default fs ≡ true → Fits program_places fs
default-fits (many ds then statements ts then done) h = (tt, (tt, tt))
default-fits _ h = absurd (cc h)

abbrev pub list_places : List Slot
list_places = list ∷ []

pub list-fits : (fs : Fields) → is_list fs ≡ true → Fits list_places fs
list-fits (many ds then done) h = (tt, tt)
list-fits _ h = absurd (cc h)
