use Rattle.std.proofs.Common.{◌∙◌, ap, refl, rules, sym}
use Rattle.std.specs.Prelude.{None, Some}
use Rattle.std.proofs.lemmas.Result.{on_err_weaker, on_ok_weaker}
use Rattle.lower_stores.specs.BareInsertions.{bare_lists}
use Rattle.lower_stores.specs.Insertions.{with_lists}
use Rattle.lower_stores.proofs.InsertionLemmas.{Table, changed_by, lists_in, shown, unchanged_at}
use Rattle.lower_stores.proofs.statement_injector.StatementInjectorStore.append.Goals as goal

pub returns-in-Some-clause-appended : goal.returns-in-Some-clause-appended
returns-in-Some-clause-appended c =
    on_ok_weaker c.append.result
    (λ joined. changed_by c.args.self.now c.self.inside.insertions.entries (c.get_mut.follows.lender c.append.new.self).entries c.args.target.0 (Some c.in-Some.there.now) c.append.new.self (with_lists (bare_lists c.args.lists)) c.self.view_is c.in-Some.ensures.value
    ((c.get_mut.follows.holds c.append.new.self).3 (search rules)).0 joined)
    c.append.ensures.appended

pub returns-in-Some-clause-kept : goal.returns-in-Some-clause-kept
returns-in-Some-clause-kept c =
    on_err_weaker c.append.result
    (λ same. unchanged_at c.args.self.now c.self.inside.insertions.entries (c.get_mut.follows.lender c.append.new.self).entries c.args.target.0 c.in-Some.there.now c.append.new.self c.self.view_is c.in-Some.ensures.value
    ((c.get_mut.follows.holds c.append.new.self).3 (search rules)).0 same)
    c.append.ensures.kept

pub returns-in-Ok-clause-appended : goal.returns-in-Ok-clause-appended
returns-in-Ok-clause-appended c =
    let same = c.get_mut.follows.holds-at-none in
    changed_by c.args.self.now c.get_mut.follows.lender-at-none.entries c.insert.new.self.entries c.args.target.0 None c.args.lists (with_lists (bare_lists c.args.lists)) (ap shown same ∙ c.self.view_is)
    (c.in-None.ensures.value ∙ ap (λ (t : Table). lists_in t.entries c.args.target.0) (sym same)) c.in-Ok.ensures.updates.0 refl
