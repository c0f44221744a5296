-- The machine's own cells are no names of a program.
use Rattle.std.proofs.Common.{◌≡◌, refl, List, [], ◌∷◌, ap}
use Rattle.std.specs.Prelude.{Bool, true, false, bytes_eq, not, ◌&&◌}
use Rattle.std.proofs.lemmas.Slice.Eq.{bytes_eq-Decides}
use Rattle.es_tree.specs.Words.{Text}
use Rattle.es_tree.specs.Fresh.{is_among}
use Rattle.es_runs.proofs.Temporary.{bytes_eq-flip}
use Rattle.es_statement_runs.specs.Scopes.{is_own_cell, are_program_names}

pub own_apart : (x y : Text) → is_own_cell x ≡ false → is_own_cell y ≡ true → bytes_eq y x ≡ false
own_apart x y h g = at (bytes_eq y x) refl
  where
    at : (b : Bool) → bytes_eq y x ≡ b → b ≡ false
    at false e = refl
    at true e = let same : y ≡ x = (bytes_eq-Decides y x).0 e in let k : is_own_cell y ≡ is_own_cell x = ap is_own_cell same in absurd (cc)

pub first_apart : (a b : Bool) → (not a && b) ≡ true → (a ≡ false) × (b ≡ true)
first_apart true b h = absurd (cc h)
first_apart false b h = (refl, h)

pub program_apart : (xs : List Text) → are_program_names xs ≡ true → (y : Text) → is_own_cell y ≡ true → is_among xs y ≡ false
program_apart [] h y e = refl
program_apart (x ∷ xs) h y e = let k = first_apart (is_own_cell x) (are_program_names xs) h in (rw (bytes_eq-flip x y, own_apart x y k.0 e) (program_apart xs k.1 y e))
