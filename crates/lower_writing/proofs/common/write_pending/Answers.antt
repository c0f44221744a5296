use Rattle.std.proofs.Common.{◌≡◌, ◌≤◌, ◌++◌, length, sym, subst}
use Rattle.es_tree.specs.Tree.{trees}
use Rattle.es_changes.specs.Moments.{top}
use Rattle.lower_writing.specs.Lists.{imports_before, listed, with_statement}
use Rattle.lower_writing.proofs.ImportPlaces.{imports-within, imports-within-more}
use Rattle.lower_writing.proofs.WrittenLists.{after-ids, put-twice, whole-seen}
use Rattle.lower_writing.proofs.common.write_pending.Goals as goal

pub put_at-requires : goal.put_at-requires
put_at-requires c =
    let ts = c.args.statements.now.items in
    let place : c.imports_before-place.result ≡ imports_before ts = cc (c.imports_before-place.ensures, c.deref.ensures.value) in
    subst (λ k. k ≤ length ts) (sym place) (imports-within ts)

pub put_at-requires-2 : goal.put_at-requires-2
put_at-requires-2 c =
    let ts = c.args.statements.now.items in
    let place : c.imports_before-place.result ≡ imports_before ts = cc (c.imports_before-place.ensures, c.deref.ensures.value) in
    subst (λ us. c.imports_before-place.result ≤ length us) (sym c.in_ok-put_at.ensures)
    (subst (λ k. k ≤ length (with_statement k c.in_ok-by_var.by_let ts)) (sym place) (imports-within-more c.in_ok-by_var.by_let ts))

pub returns-clause-written : goal.returns-clause-written
returns-clause-written c names =
    let ts = c.args.statements.now.items in
    let place : c.imports_before-place.result ≡ imports_before ts = cc (c.imports_before-place.ensures, c.deref.ensures.value) in
    let v = c.in_ok-by_var.by_var in
    let o = c.in_ok-by_var.by_let in
    whole-seen names (top c.args.ctx.now.state.var_declarations) v o ts c.put_at-2.new.statements.items c.in_ok-by_var.ensures.by_var c.in_ok-by_var.ensures.by_let
    (put-twice v o c.imports_before-place.result ts c.put_at.new.statements.items c.put_at-2.new.statements.items place c.in_ok-put_at.ensures c.in_ok-put_at-2.ensures)

pub returns-clause-ids : goal.returns-clause-ids
returns-clause-ids c m =
    let ts = c.args.statements.now.items in
    let place : c.imports_before-place.result ≡ imports_before ts = cc (c.imports_before-place.ensures, c.deref.ensures.value) in
    let v = c.in_ok-by_var.by_var in
    let o = c.in_ok-by_var.by_let in
    after-ids m (trees (listed v ++ listed o)) (trees ts) (trees c.put_at-2.new.statements.items)
    (put-twice v o c.imports_before-place.result ts c.put_at.new.statements.items c.put_at-2.new.statements.items place c.in_ok-put_at.ensures c.in_ok-put_at-2.ensures)
