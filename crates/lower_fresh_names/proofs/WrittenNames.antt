-- The names in use: those of the program, and those that are written.
use Rattle.std.proofs.Common.{◌≡◌, refl}
use Rattle.std.specs.Prelude.{◌||◌, Bool, false, true}

pub names-used : (a b c d : Bool) → (((a || b) || c) || d) ≡ (a || (b || (c || (d || false))))
names-used true b c d = refl
names-used false true c d = refl
names-used false false true d = refl
names-used false false false true = refl
names-used false false false false = refl
