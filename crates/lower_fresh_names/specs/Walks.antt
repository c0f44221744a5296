-- What a part of a program becomes where fresh names are made in it, one after the other, and walks along a list of parts.
use Rattle.std.specs.Prelude.{◌≡◌, ◌++◌, Bool, List, [], ◌∷◌, length, ℕ, zero, suc}
use Rattle.es_tree.specs.Fresh.{also}
use Rattle.es_tree.specs.Words.{Text}
use Rattle.es_scope.specs.Uids.{made, uses}
use Rattle.es_scope.specs.declared.uids.UidGenerator.{UidGenerator}

-- NAMES

-- a list of names that begins with these
abbrev pub BeginsWith : List Text → List Text → Type 0
BeginsWith names all = (more : List Text) × (all ≡ names ++ more)

-- the name of this number
abbrev pub name_at : List Text → ℕ → Text
name_at [] n = []
name_at (x ∷ xs) zero = x
name_at (x ∷ xs) (suc n) = name_at xs n

-- these names up to this number are in use, too
abbrev pub with_names : List Text → ℕ → (Text → Bool) → Text → Bool
with_names all zero in_use = in_use
with_names all (suc n) in_use = also (name_at all n) (with_names all n in_use)

-- beside what was in use, this state of the generator uses as many of these names as it has made
abbrev pub UsesFirst : (Text → Bool) → List Text → UidGenerator → Type 0
UsesFirst in_use all uids = (x : Text) → uses uids x ≡ with_names all (length (made uids)) in_use x

-- WHAT A PART BECOMES

-- Between these two states x became y in this way, for every list of names that begins with those made by the end: it begins with the number of
-- the names made before, and ends with that of those made since, too. Each of them is fresh, in the way that this says of x.
pub record WalksAs {X Y : Type 0} (move : List Text → ℕ → X → ℕ × Y) (fresh : (Text → Bool) → List Text → ℕ → X → Type 0) (old new : UidGenerator) (x : X) (y : Y) : Type 0 where
  pub names : List Text
  pub made_is : made new ≡ made old ++ names
  pub used : (in_use : Text → Bool) (all : List Text) → BeginsWith (made new) all → UsesFirst in_use all old → UsesFirst in_use all new
  pub becomes : (all : List Text) → BeginsWith (made new) all → move all (length (made old)) x ≡ (length (made new), y)
  pub are_fresh : (in_use : Text → Bool) (all : List Text) → BeginsWith (made new) all → UsesFirst in_use all old → fresh in_use all (length (made old)) x

-- WALKS ALONG A LIST: what the list is as a whole and each item as a part, the whole with one part more, and what becomes of the whole and of
-- the part at this place, with what says that their names are fresh.
pub record Along (E T X : Type 0) : Type 1 where
  pub whole : List E → T
  pub part : E → X
  pub with_part : T → X → T
  pub move_whole : List Text → ℕ → T → ℕ × T
  pub move_part : ℕ → List Text → ℕ → X → ℕ × X
  pub whole_fresh : (Text → Bool) → List Text → ℕ → T → Type 0
  pub part_fresh : ℕ → (Text → Bool) → List Text → ℕ → X → Type 0

-- the whole becomes what its parts become, each after those before it
pub record IsAlong {E T X : Type 0} (w : Along E T X) : Type 0 where
  pub added : (xs : List E) (x : E) → w.whole (xs ++ x ∷ []) ≡ w.with_part (w.whole xs) (w.part x)
  pub none : (all : List Text) (n : ℕ) → w.move_whole all n (w.whole []) ≡ (n, w.whole [])
  pub more : (all : List Text) (n : ℕ) (xs : List E) (x : E) → w.move_whole all n (w.whole (xs ++ x ∷ [])) ≡ ((w.move_part (length xs) all (w.move_whole all n (w.whole xs)).0 (w.part x)).0, w.with_part (w.move_whole all n (w.whole xs)).1 (w.move_part (length xs) all (w.move_whole all n (w.whole xs)).0 (w.part x)).1)
  pub none_fresh : (in_use : Text → Bool) (all : List Text) (n : ℕ) → w.whole_fresh in_use all n (w.whole [])
  pub more_fresh : (in_use : Text → Bool) (all : List Text) (n : ℕ) (xs : List E) (x : E) → w.whole_fresh in_use all n (w.whole xs) → w.part_fresh (length xs) in_use all (w.move_whole all n (w.whole xs)).0 (w.part x) → w.whole_fresh in_use all n (w.whole (xs ++ x ∷ []))
