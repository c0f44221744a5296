-- What a generator of fresh names holds.
use Rattle.std.specs.Prelude.{◌≡◌, true, Bool, List, map, string_bytes}
use Rattle.std.specs.HashSet.{contains_text}
use Rattle.es_tree.specs.Words.{Text}
use Rattle.es_scope.specs.declared.uids.UidGenerator.{UidGenerator}

-- whether a name is in use
abbrev pub uses : UidGenerator → Text → Bool
uses uids x = contains_text uids.in_use x

-- the names made, in the order made
abbrev pub made : UidGenerator → List Text
made uids = map string_bytes uids.made.items

-- what is in use stays so
abbrev pub StaysInUse : UidGenerator → UidGenerator → Type 0
StaysInUse old new = (x : Text) → uses old x ≡ true → uses new x ≡ true
