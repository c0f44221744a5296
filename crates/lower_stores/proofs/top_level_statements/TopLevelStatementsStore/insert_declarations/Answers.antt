use Rattle.std.proofs.Common.{◌∙◌}
use Rattle.lower_stores.proofs.TopLevelLemmas.{bare-declarations}
use Rattle.lower_stores.proofs.top_level_statements.TopLevelStatementsStore.insert_declarations.Goals as goal

pub returns-clause-inserted : goal.returns-clause-inserted
returns-clause-inserted c =
    c.in_ok-insert_statements.ensures.inserted
    ∙ bare-declarations c.args.self.now c.args.imports.items c.push_if_there.new.stmts.items c.push_if_there-2.new.stmts.items c.args.var c.args.lets c.in_ok-push_if_there.ensures c.in_ok-push_if_there-2.ensures
