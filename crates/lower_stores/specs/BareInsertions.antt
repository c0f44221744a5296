-- What a store of insertions holds.
use Rattle.std.specs.Prelude.{ℕ, Bool, List, [], ◌∷◌, ◌++◌, ◌+◌, Option, Some, None, is_some, if◌then◌else◌, length, map, nat_eq}
use Rattle.std.specs.FinMap.{from_entries}
use Rattle.std.specs.List.{list_any}
use Rattle.es_tree.specs.Bare.{bare}
use Rattle.es_tree.specs.Tree.{Tree, label_of}
use Rattle.lower_stores.specs.Insertions.{Around, Insertions}
use Rattle.lower_stores.specs.declared.statement_injector.Lists.{Lists}

-- the bare statements of these lists
abbrev pub bare_lists : Lists → Around
bare_lists l = record { befores = map bare l.befores.items; afters = map bare l.afters.items }

abbrev pub bare_entry : ℕ × Lists → ℕ × Around
bare_entry e = (e.0, bare_lists e.1)

-- those of all statements
abbrev pub bare_insertions : List (ℕ × Lists) → Insertions
bare_insertions entries = from_entries (map bare_entry entries)

-- the lists of a statement, by its id
abbrev pub ById : Type 0
ById = ℕ → Option Lists

abbrev pub without : ℕ → ById → ById
without id lists other = if nat_eq id other then None else lists other

-- whether one of these statements has lists
abbrev pub has_lists : ById → List Tree → Bool
has_lists lists ss = list_any (λ s. is_some (lists (label_of s).id)) ss

-- a statement with its lists around it
abbrev pub surrounded_by : Option Lists → Tree → List Tree
surrounded_by None s = s ∷ []
surrounded_by (Some l) s = l.befores.items ++ s ∷ l.afters.items

-- each statement with its lists around it
abbrev pub woven : ById → List Tree → List Tree
woven lists [] = []
woven lists (s ∷ ss) = surrounded_by (lists (label_of s).id) s ++ woven (without (label_of s).id lists) ss

-- the lists that are left after that
abbrev pub lists_left : ById → List Tree → ById
lists_left lists [] = lists
lists_left lists (s ∷ ss) = lists_left (without (label_of s).id lists) ss

-- how many statements stand in these lists
abbrev pub lists_length : Option Lists → ℕ
lists_length None = 0
lists_length (Some l) = length l.befores.items + length l.afters.items

-- how many statements there are with all lists of all of them, where the lists of two with one id count twice
abbrev pub room_for : ById → List Tree → ℕ
room_for lists [] = 0
room_for lists (s ∷ ss) = lists_length (lists (label_of s).id) + 1 + room_for lists ss
