use Rattle.std.proofs.Common.{◌≡◌, ◌<◌, ℕ, zero, suc, arith}
use Rattle.es_tree.specs.Tree.{fields_of, kind_of, label_of}
use Rattle.es_semantic.specs.RolesOf.{role_at}
use Rattle.es_semantic.specs.declared.place.Role.{Role}
use Rattle.es_semantic.proofs.role_in.role_in.Goals as goal

from_later : (f : ℕ → Role) (r : Role) → ((i : ℕ) → r ≡ f (suc (suc (suc i)))) → (n : ℕ) → 2 < n → r ≡ f n
from_later f r e zero h = absurd (omega arith)
from_later f r e (suc zero) h = absurd (omega arith)
from_later f r e (suc (suc zero)) h = absurd (omega arith)
from_later f r e (suc (suc (suc i))) h = e i

pub returns-in_default : goal.returns-in_default
returns-in_default c =
    let t = c.args.node.now in
    from_later (role_at c.args.role (kind_of t) (label_of t) (fields_of t)) c.later_role.result c.later_role.ensures c.args.index (omega arith)
