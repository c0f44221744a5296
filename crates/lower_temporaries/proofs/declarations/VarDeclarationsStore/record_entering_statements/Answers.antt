use Rattle.lower_temporaries.proofs.StoreLemmas.{entered}
use Rattle.lower_temporaries.proofs.declarations.VarDeclarationsStore.record_entering_statements.Goals as goal

pub returns-clause-entered : goal.returns-clause-entered
returns-clause-entered c =
    entered c.self.inside.pairs.items c.push.new.self.items (record { vars = c.new.result; lets = c.new-2.result }) _ c.self.view_is c.in_ok-push.ensures.items c.new.ensures.items c.new-2.ensures.items
