use Rattle.std.proofs.Common.{◌∙◌, ap, is_some}
use Rattle.std.proofs.lemmas.Bool.{ne_eqb}
use Rattle.std.specs.FinMap.{get, insert, remove}
use Rattle.lower_stores.specs.BareInsertions.{bare_lists}
use Rattle.lower_stores.specs.Insertions.{Insertions, nothing_around, with_around, with_lists}
use Rattle.lower_stores.proofs.InsertionLemmas.{get-emptied, moved_lists, put_back_same, removed}
use Rattle.lower_stores.proofs.statement_injector.StatementInjectorStore.move_insertions.Goals as goal

pub put_back-requires : goal.put_back-requires
put_back-requires c =
    let m = c.args.self.now in
    let from = c.args.old_target.0 in
    ap (λ (n : Insertions). is_some (get n from)) (c.in-Err.ensures.kept ∙ c.in-Some.ensures.emptied) ∙ ap is_some (get-emptied m from nothing_around)

pub returns-in-Err-clause-kept : goal.returns-in-Err-clause-kept
returns-in-Err-clause-kept c =
    let m = c.args.self.now in
    let from = c.args.old_target.0 in
    c.put_back.ensures ∙ (λ i. insert ((c.in-Err.ensures.kept ∙ c.in-Some.ensures.emptied) i) from (c.in-Err.ensures.returned i))
    ∙ put_back_same m from (bare_lists c.in-Some.lists) nothing_around c.in-Some.ensures.there

pub returns-in-Ok-clause-moved : goal.returns-in-Ok-clause-moved
returns-in-Ok-clause-moved c =
    let m = c.args.self.now in
    let from = c.args.old_target.0 in
    let to = c.args.new_target.0 in
    removed c.append.new.self c.self.inside.insertions.entries c.remove.new.self.entries from c.self.view_is c.remove.ensures.updates.0
    ∙ ap (λ (n : Insertions). remove n from) (c.in-Ok.ensures.appended ∙ ap (with_around (with_lists (bare_lists c.in-Some.lists)) to) c.in-Some.ensures.emptied)
    ∙ moved_lists m from to (bare_lists c.in-Some.lists) (ne_eqb from to c.if-old_target-new_target.false) c.in-Some.ensures.there
