-- The places of what stands in the fields of a node, which count from 0, as a walk holds them.
use Rattle.std.specs.Prelude.{ℕ, zero, suc}
use Rattle.es_semantic.specs.declared.field_places.FieldPlaces.{FieldPlaces}
use Rattle.es_semantic.specs.declared.place.Place.{Place}

abbrev pub held_at : FieldPlaces → ℕ → Place
held_at ps zero = ps.first
held_at ps (suc zero) = ps.second
held_at ps (suc (suc zero)) = ps.third
held_at ps (suc (suc (suc n))) = ps.later
