use Rattle.es_semantic.proofs.HeldTables.{Holds-scope}
use Rattle.es_semantic.proofs.scopes_added.open_scope.Goals as goal

pub returns-clause-opened : goal.returns-clause-opened
returns-clause-opened c = λ around outer rows ds e holds.
    rw c.if-not-is_made.false
    (Holds-scope rows ds c.args.scoping.now c.add_scope.new.self c.args.parent.0 around outer c.args.flags e c.in_ok-made.ensures.added holds)
