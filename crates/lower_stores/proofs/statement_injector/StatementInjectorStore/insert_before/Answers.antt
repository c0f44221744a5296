use Rattle.std.proofs.Common.{◌∙◌}
use Rattle.lower_stores.specs.declared.statement_injector.Lists.{Lists}
use Rattle.lower_stores.proofs.InsertionLemmas.{one_before}
use Rattle.lower_stores.proofs.statement_injector.StatementInjectorStore.insert_before.Goals as goal

pub returns-clause-inserted : goal.returns-clause-inserted
returns-clause-inserted c =
    let lists : Lists = record { befores = c.in_ok-from_array.field-0; afters = c.new.result } in
    c.in_ok-append.ensures.appended ∙ one_before c.args.self.now c.args.target.0 lists c.args.stmt c.in_ok-from_array.ensures.items c.new.ensures.items
