use Rattle.std.proofs.Common.{sym, ap, ◌∙◌}
use Rattle.es_semantic.specs.ReferencesOf.{referring}
use Rattle.es_semantic.proofs.Identifiers.{one_referred, role_default}
use Rattle.es_semantic.proofs.marks.mark_identifier.Goals as goal

pub returns-in_ok-refer-in-Refers-clause-referred : goal.returns-in_ok-refer-in-Refers-clause-referred
returns-in_ok-refer-in-Refers-clause-referred c = λ p rows ds stands names chain.
    one_referred c.args.scoping.now c.refer.new.scoping p.role c.in-Refers.flags c.args.node.0 _ (ap referring (sym stands.role ∙ c.in-Refers.is)) (c.in_ok-refer-in-Refers.ensures.referred p rows ds stands names chain)

pub returns-in_ok-refer-in_default-clause-referred : goal.returns-in_ok-refer-in_default-clause-referred
returns-in_ok-refer-in_default-clause-referred c = λ p rows ds stands names chain.
    let reads = role_default c.args.place.role c.in_default.not-Nothing c.in_default.not-Binds c.in_default.not-Refers in
    one_referred c.args.scoping.now c.refer-in_default.new.scoping p.role _ c.args.node.0 _ (ap referring (sym stands.role) ∙ reads) (c.in_ok-refer-in_default.ensures.referred p rows ds stands names chain)
