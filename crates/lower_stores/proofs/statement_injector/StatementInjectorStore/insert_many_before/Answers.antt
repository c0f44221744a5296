use Rattle.std.proofs.Common.{◌∙◌, ap, map, refl, rules, sym}
use Rattle.std.specs.Prelude.{None, Some}
use Rattle.std.proofs.lemmas.Result.{on_err_weaker, on_ok_weaker}
use Rattle.es_tree.specs.Bare.{bare}
use Rattle.lower_stores.specs.Insertions.{with_many_before}
use Rattle.lower_stores.specs.declared.statement_injector.Lists.{Lists}
use Rattle.lower_stores.proofs.InsertionLemmas.{Table, changed_by, lists_in, only_befores, shown, unchanged_at}
use Rattle.lower_stores.proofs.statement_injector.StatementInjectorStore.insert_many_before.Goals as goal

pub returns-in-Some-clause-inserted : goal.returns-in-Some-clause-inserted
returns-in-Some-clause-inserted c =
    on_ok_weaker c.put_first.result
    (λ joined. changed_by c.args.self.now c.self.inside.insertions.entries (c.get_mut.follows.lender c.put_first.new.self).entries c.args.target.0 (Some c.in-Some.there.now) c.put_first.new.self (with_many_before (map bare c.args.stmts.items)) c.self.view_is c.in-Some.ensures.value
    ((c.get_mut.follows.holds c.put_first.new.self).3 (search rules)).0 joined)
    c.put_first.ensures.first

pub returns-in-Some-clause-kept : goal.returns-in-Some-clause-kept
returns-in-Some-clause-kept c =
    on_err_weaker c.put_first.result
    (λ same. unchanged_at c.args.self.now c.self.inside.insertions.entries (c.get_mut.follows.lender c.put_first.new.self).entries c.args.target.0 c.in-Some.there.now c.put_first.new.self c.self.view_is c.in-Some.ensures.value
    ((c.get_mut.follows.holds c.put_first.new.self).3 (search rules)).0 same)
    c.put_first.ensures.kept

pub returns-in_ok-insert-in-None-clause-inserted : goal.returns-in_ok-insert-in-None-clause-inserted
returns-in_ok-insert-in-None-clause-inserted c =
    let same = c.get_mut.follows.holds-at-none in
    let lists : Lists = record { befores = c.args.stmts; afters = c.new.result } in
    changed_by c.args.self.now c.get_mut.follows.lender-at-none.entries c.insert.new.self.entries c.args.target.0 None lists (with_many_before (map bare c.args.stmts.items)) (ap shown same ∙ c.self.view_is)
    (c.in-None.ensures.value ∙ ap (λ (t : Table). lists_in t.entries c.args.target.0) (sym same)) c.in_ok-insert-in-None.ensures.updates.0 (only_befores lists c.args.stmts.items refl c.new.ensures.items)
