-- Classes around, taken apart.
use Rattle.std.proofs.Common.{◌≡◌, ℕ, List, ◌∷◌, Bool, true, false, ◌&&◌, ◌||◌, cond, refl}
use Rattle.std.specs.List.{list_any}

pub any_in-more : (b : Bool) (p : ℕ → Bool) (n : ℕ) (ns : List ℕ) → list_any p (cond b (n ∷ ns) ns) ≡ (b && p n || list_any p ns)
any_in-more true p n ns = refl
any_in-more false p n ns = refl
