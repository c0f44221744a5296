-- The laws of ids and marks: what is seen of a program is the program without them, and no rule of places asks for them.
use Rattle.std.specs.Prelude.{◌≡◌, ℕ, [], Option}
use Rattle.es_tree.specs.Bare.{bare}
use Rattle.es_tree.specs.Tree.{Tree}
use Rattle.es_tree.specs.Words.{Text}
use Rattle.es_resolution.specs.Laws.{source}
use Rattle.es_resolution.specs.Seen.{seen}
use Rattle.es_valid_steps.specs.PlaceRules.{place_breaks}

-- whatever the scopes bind
abbrev pub LawBareSeen : Type 0
LawBareSeen = (bound : ℕ → Text → Option ℕ) (t : Tree) → bare (seen bound t) ≡ bare t

abbrev pub LawBareSource : Type 0
LawBareSource = (p : Tree) → bare (source p) ≡ bare p

-- of two trees that are equal but for ids and marks both break a rule of places, or neither
abbrev pub LawBarePlaces : Type 0
LawBarePlaces = (t u : Tree) → bare t ≡ bare u → place_breaks t ≡ [] → place_breaks u ≡ []
