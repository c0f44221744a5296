use Rattle.std.proofs.Common.{◌≡◌, refl}
use Rattle.es_tree.specs.HasForm.{same_type}
use Rattle.es_static_rules.proofs.OwnKinds.{same_by_number}
use Rattle.es_static_rules.proofs.ancestors.Ancestor.is.Goals as goal

pub returns : goal.returns
returns c =
    let same : c.eq.result ≡ same_type c.kind.result c.args.kind = rw c.eq.ensures (same_by_number c.args.kind c.kind.result _ refl) in
    rw (← c.kind.ensures) same
