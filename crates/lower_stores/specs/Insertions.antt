-- What is to be written around statements, by the ids of these.
use Rattle.std.specs.Prelude.{ℕ, List, [], ◌∷◌, ◌++◌, ◌==◌, Bool, if◌then◌else◌, is_some, refl, unwrap_or}
use Rattle.std.specs.Coded.{Coded, code_by, coded_list, coded_ℕ, coded×}
use Rattle.std.specs.FinMap as finite
use Rattle.std.specs.List.{list_any}
use Rattle.std.specs.Option.{option_map_or}
use Rattle.std.specs.Ordering.{nat_cmp}
use Rattle.es_tree.specs.Bare.{bare}
use Rattle.es_tree.specs.Tree.{Tree, label_of}
use Rattle.es_tree.specs.TreeCode.{tree_code}

-- the bare statements that are to stand before and after one statement
pub record Around : Type 0 where
  pub befores : List Tree
  pub afters : List Tree

abbrev pub around_code : Coded Around
around_code = code_by (List Tree × List Tree) (coded× (coded_list tree_code) (coded_list tree_code)) (λ a. (a.befores, a.afters)) (λ p. record { befores = p.0; afters = p.1 }) (λ _. refl)

abbrev pub Insertions : Type 0
Insertions = finite.FinMap nat_cmp Around

abbrev pub insertions_code : Coded Insertions
insertions_code = finite.code coded_ℕ around_code

abbrev pub nothing_around : Around
nothing_around = record { befores = []; afters = [] }

-- what is to stand around the statement with this id
abbrev pub around_at : Insertions → ℕ → Around
around_at insertions id = unwrap_or (finite.get insertions id) nothing_around

-- the same, with what f makes of what is to stand around the statement with this id
abbrev pub with_around : (Around → Around) → ℕ → Insertions → Insertions
with_around f id insertions = finite.insert insertions id (f (around_at insertions id))

-- further statements: before one as the last or the first of its befores, after one as the last of its afters
abbrev pub with_before : Tree → Around → Around
with_before s a = record a { befores = a.befores ++ s ∷ [] }

abbrev pub with_many_before : List Tree → Around → Around
with_many_before ss a = record a { befores = ss ++ a.befores }

abbrev pub with_after : Tree → Around → Around
with_after s a = record a { afters = a.afters ++ s ∷ [] }

abbrev pub with_many_after : List Tree → Around → Around
with_many_after ss a = record a { afters = a.afters ++ ss }

-- these lists, each behind the one that is there
abbrev pub with_lists : Around → Around → Around
with_lists more a = record { befores = a.befores ++ more.befores; afters = a.afters ++ more.afters }

-- what was to stand around the first statement is to stand around the second
abbrev pub moved : ℕ → ℕ → Insertions → Insertions
moved from to insertions =
    if from == to then insertions else option_map_or (λ lists. with_around (with_lists lists) to (finite.remove insertions from)) (finite.get insertions from) insertions

-- whether lists are there for one of these statements
abbrev pub is_any_around : Insertions → List Tree → Bool
is_any_around insertions ss = list_any (λ s. is_some (finite.get insertions (label_of s).id)) ss

-- a statement with what is to stand around it
abbrev pub surrounded : Around → Tree → List Tree
surrounded a s = a.befores ++ s ∷ a.afters

-- each statement with what is to stand around it, which is then no longer to be written
abbrev pub inserted : Insertions → List Tree → List Tree
inserted insertions [] = []
inserted insertions (s ∷ ss) =
    let id = (label_of s).id in surrounded (around_at insertions id) (bare s) ++ inserted (finite.remove insertions id) ss

-- what is still to be written after that
abbrev pub still_to_insert : Insertions → List Tree → Insertions
still_to_insert insertions [] = insertions
still_to_insert insertions (s ∷ ss) = still_to_insert (finite.remove insertions (label_of s).id) ss

-- the first statements stand among the second, whole and in their order
pub data StandsAmong : List Tree → List Tree → Type 0 where
  none_left : (ss : List Tree) → StandsAmong [] ss
  this_one : (s : Tree) (ss us : List Tree) → StandsAmong ss us → StandsAmong (s ∷ ss) (s ∷ us)
  another : (u : Tree) (ss us : List Tree) → StandsAmong ss us → StandsAmong ss (u ∷ us)
