-- Steps in a row: one row after another, and rows of a part as rows of the whole.
use Rattle.es_steps.specs.Steps.{Ledger, Steps}
use Rattle.es_steps.specs.Steps.Steps.{goes, stays}

pub steps-trans : {X : Type 0} {S : Ledger → X → Ledger → X → Type 0} {s s' s'' : Ledger} {x y z : X} → Steps S s x s' y → Steps S s' y s'' z → Steps S s x s'' z
steps-trans stays b = b
steps-trans (goes h r) b = goes h (steps-trans r b)

pub steps-map : {X Y : Type 0} {S : Ledger → X → Ledger → X → Type 0} {T : Ledger → Y → Ledger → Y → Type 0} (f : X → Y) → ((s s' : Ledger) (x y : X) → S s x s' y → T s (f x) s' (f y)) →
    {s s' : Ledger} {x y : X} → Steps S s x s' y → Steps T s (f x) s' (f y)
steps-map f lift stays = stays
steps-map f lift (goes h r) = goes (lift _ _ _ _ h) (steps-map f lift r)
