use Rattle.std.proofs.Common.{◌∙◌, refl}
use Rattle.lower_stores.specs.declared.statement_injector.Lists.{Lists}
use Rattle.lower_stores.proofs.InsertionLemmas.{many_after}
use Rattle.lower_stores.proofs.statement_injector.StatementInjectorStore.insert_many_after.Goals as goal

pub returns-clause-inserted : goal.returns-clause-inserted
returns-clause-inserted c =
    let lists : Lists = record { befores = c.new.result; afters = c.args.stmts } in
    c.in_ok-append.ensures.appended ∙ many_after c.args.self.now c.args.target.0 lists c.args.stmts.items c.new.ensures.items refl
