-- Moments that differ in the ids given so far.
use Rattle.std.proofs.Common.{◌≡◌, ℕ, ◌+◌}
use Rattle.es_changes.specs.Moments.{Moment}
use Rattle.lower_temporaries.specs.Takings.{with_ids}

-- so many ids after a moment that is the same
pub ids-later : (ids : ℕ) (a m : Moment) (n : ℕ) → m ≡ with_ids 0 a → n ≡ a.next + ids → record m { next = n } ≡ with_ids ids a
ids-later ids a m n e h = λ i. record (e i) { next = h i }
