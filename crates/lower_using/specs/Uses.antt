-- What a part of a program has become when `using` was lowered in it, and the contexts that were made for it.
use Rattle.std.specs.Prelude.{◌≡◌, ◌++◌, Bool, List, [], ◌∷◌, length, ℕ}
use Rattle.es_tree.specs.Fresh.{also}
use Rattle.es_tree.specs.Words.{Text}
use Rattle.es_scope.specs.Uids.{made, uses}
use Rattle.es_scope.specs.declared.uids.UidGenerator.{UidGenerator}
use Rattle.es_using_rows.specs.Used.{AreFresh, Makes, plainly}

-- a list of names that begins with these
abbrev pub BeginsWith : List Text → List Text → Type 0
BeginsWith names all = (more : List Text) × (all ≡ names ++ more)

-- these names are in use, too
abbrev pub also_these : List Text → (Text → Bool) → Text → Bool
also_these [] in_use = in_use
also_these (x ∷ xs) in_use = also_these xs (also x in_use)

-- Between these two states of the generator these names were made, each fresh.
pub record MakesNames (old new : UidGenerator) (names : List Text) : Type 0 where
  pub made_is : made new ≡ made old ++ names
  pub fresh : AreFresh (uses old) names
  pub used : (x : Text) → uses new x ≡ also_these names (uses old) x

-- Between these two states x became y by this way of lowering, for every list of names that begins with those made by the end: it begins
-- with the number of the names made before, and ends with that of those made since, too.
pub record UsesAs {X Y : Type 0} (lower : Makes → ℕ → X → ℕ × Y) (old new : UidGenerator) (x : X) (y : Y) : Type 0 where
  pub names : List Text
  pub makes : MakesNames old new names
  pub becomes : (all : List Text) → BeginsWith (made new) all → lower (plainly all) (length (made old)) x ≡ (length (made new), y)
