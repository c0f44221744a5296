-- What the ends of a run tell.
use Rattle.std.specs.Prelude.{◌≡◌, ◌⊎◌, ◌+◌, ◌-◌, ◌^◌, ◌<◌, min, ℕ, List, [], length, Option, None, Some, MatchOption}
use Rattle.std.specs.Io.KnownBytes.{prepend_known}

-- a count goes up by one, and stands still at its last value
abbrev pub count_on : ℕ → ℕ
count_on count = min (count + 1) (2 ^ 64 - 1)

-- a fault since then: the count has risen, or stands at its last value
abbrev pub HasFault : ℕ → ℕ → Type 0
HasFault before now = (before < now) ⊎ (now ≡ 2 ^ 64 - 1)

-- All bytes were read: where they are told, these are the ones that were left, and none is left now.
abbrev pub ReadWhole : Option (List ℕ) → Option (List ℕ) → List ℕ → Type 0
ReadWhole old new bytes = MatchOption old (new ≡ None) (λ left. (left ≡ bytes) × (new ≡ Some []))

-- This many bytes were read: where they are told, so many are taken from the front of those that were left.
abbrev pub ReadFront : Option (List ℕ) → Option (List ℕ) → ℕ → Type 0
ReadFront old new count = (bytes : List ℕ) × (length bytes ≡ count) × (old ≡ prepend_known bytes new)

-- what an end tells at one moment: its bytes, where it tells them, and how often it has failed
pub record End : Type 0 where
  pub bytes : Option (List ℕ)
  pub faults : ℕ

-- what this end tells
abbrev pub end_of : {T : Type 0} → (T → Option (List ℕ)) → (T → ℕ) → T → End
end_of bytes faults it = record { bytes = bytes it; faults = faults it }
