use Rattle.std.proofs.Common.{◌≡◌, ◌<◌, ℕ, suc, zero, arith}
use Rattle.std.specs.Prelude.{Bool}
use Rattle.es_tree.specs.Heads.{head_of}
use Rattle.es_bound_names.specs.BoundNames.{declares_at}
use Rattle.es_bound_names.proofs.declares_at.Goals as goal

from-later : (f : ℕ → Bool) (b : Bool) → ((i : ℕ) → b ≡ f (suc (suc i))) → (n : ℕ) → 1 < n → b ≡ f n
from-later f b e zero h = absurd (omega arith)
from-later f b e (suc zero) h = absurd (omega arith)
from-later f b e (suc (suc i)) h = e i

pub returns-in_default : goal.returns-in_default
returns-in_default c = from-later (declares_at c.args.declared (head_of c.args.kind.now).kind) c.declares_later.result c.declares_later.ensures c.args.index (omega arith)
