use Rattle.std.proofs.Common.{◌≡◌}
use Rattle.std.specs.List.{list_any}
use Rattle.es_tree.specs.HasForm.{same_type}
use Rattle.es_tree.specs.Heads.{head_of}
use Rattle.es_tree.specs.Table.{own_kinds}
use Rattle.es_static_rules.proofs.OwnKinds.{among_by_number}
use Rattle.es_static_rules.proofs.rules.is_own_kind.Goals as goal

pub returns : goal.returns
returns c =
    let kind = (head_of c.node.inside.kind).kind in
    let among : c.contains.result ≡ list_any (same_type kind) (own_kinds c.args.sort) =
    rw (c.contains.ensures.value, c.own_kinds.ensures, c.ast_type.ensures) (among_by_number kind (own_kinds c.args.sort)) in
    rw (← c.node.view_is) among
