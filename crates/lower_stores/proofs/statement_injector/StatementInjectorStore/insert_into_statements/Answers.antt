use Rattle.std.proofs.Common.{◌∙◌, Global, Vec, ap, arith, le_refl, length, map, sym, subst}
use Rattle.std.specs.Prelude.{nat_eq}
use Rattle.std.specs.HashMap.{get}
use Rattle.std.specs.Option.{option_map}
use Rattle.es_tree.specs.Bare.{bare}
use Rattle.es_tree.specs.Tree.{Tree}
use Rattle.lower_stores.specs.BareInsertions.{bare_lists, has_lists, lists_left, lists_length, room_for, woven}
use Rattle.lower_stores.specs.Insertions.{StandsAmong, still_to_insert}
use Rattle.lower_stores.proofs.InsertionLemmas.{get-bare, same_insertions, shown}
use Rattle.lower_stores.proofs.WovenLemmas.{among-woven, bare-woven, length-woven, none_around, none_inserted, none_taken, shows-left, shows_all, some_around, written_whole}
use Rattle.lower_stores.proofs.TopLevelLemmas.{stands_all}
use Rattle.lower_stores.proofs.statement_injector.StatementInjectorStore.insert_into_statements.Goals as goal

pub weave-requires : goal.weave-requires
weave-requires c =
    let lists = get nat_eq c.self.inside.insertions in
    let fits = length-woven lists lists c.args.statements.now.items (λ q. le_refl (lists_length (lists q))) in
    let counted = c.in_ok-room.ensures ∙ ap (room_for lists) c.deref-2.ensures.value in
    let moved = ap (λ (v : Vec Tree Global). length (woven lists v.items)) c.replace-bare.ensures.value in
    omega (arith, fits, counted, moved, c.in_ok-written.ensures.len, c.in_ok-written.ensures.capacity)

pub returns-clause-written : goal.returns-clause-written
returns-clause-written c =
    let lists = get nat_eq c.self.inside.insertions in
    let shows = shows_all c.args.self.now c.self.inside.insertions.entries c.self.view_is in
    ap (map bare) (written_whole c.weave.result.items c.in_ok-written.written.items c.replace-bare.result.items c.args.statements.now.items lists c.weave.ensures.written c.in_ok-written.ensures.items (ap (λ (v : Vec Tree Global). v.items) c.replace-bare.ensures.value))
    ∙ bare-woven c.args.self.now lists c.args.statements.now.items shows

pub returns-clause-left : goal.returns-clause-left
returns-clause-left c =
    let lists = get nat_eq c.self.inside.insertions in
    let ss = c.args.statements.now.items in
    let shows = shows_all c.args.self.now c.self.inside.insertions.entries c.self.view_is in
    same_insertions (shown c.weave.new.insertions) (still_to_insert c.args.self.now ss) (λ q.
    get-bare c.weave.new.insertions.entries q
    ∙ ap (option_map bare_lists) (c.weave.ensures.left q ∙ ap (λ (v : Vec Tree Global). lists_left lists v.items q) c.replace-bare.ensures.value)
    ∙ sym (shows-left c.args.self.now lists ss shows q))

pub returns-clause-among : goal.returns-clause-among
returns-clause-among c =
    let lists = get nat_eq c.self.inside.insertions in
    let ss = c.args.statements.now.items in
    subst (StandsAmong ss) (sym (written_whole c.weave.result.items c.in_ok-written.written.items c.replace-bare.result.items ss lists c.weave.ensures.written c.in_ok-written.ensures.items (ap (λ (v : Vec Tree Global). v.items) c.replace-bare.ensures.value)))
    (among-woven lists ss)

pub returns-then-not-has_lists-clause-written : goal.returns-then-not-has_lists-clause-written
returns-then-not-has_lists-clause-written c =
    let ss = c.args.statements.now.items in
    sym (none_inserted c.args.self.now ss (none_around c.args.self.now c.self.inside.insertions.entries ss c.has_lists.result c.self.view_is (c.has_lists.ensures ∙ ap (has_lists (get nat_eq c.self.inside.insertions)) c.deref.ensures.value) c.if-not-has_lists.true))

pub returns-then-not-has_lists-clause-left : goal.returns-then-not-has_lists-clause-left
returns-then-not-has_lists-clause-left c =
    let ss = c.args.statements.now.items in
    sym (none_taken c.args.self.now ss (none_around c.args.self.now c.self.inside.insertions.entries ss c.has_lists.result c.self.view_is (c.has_lists.ensures ∙ ap (has_lists (get nat_eq c.self.inside.insertions)) c.deref.ensures.value) c.if-not-has_lists.true))

pub returns-then-not-has_lists-clause-among : goal.returns-then-not-has_lists-clause-among
returns-then-not-has_lists-clause-among c = stands_all c.args.statements.now.items

pub returns-in_err-room-clause-untouched : goal.returns-in_err-room-clause-untouched
returns-in_err-room-clause-untouched c =
    some_around c.args.self.now c.self.inside.insertions.entries c.args.statements.now.items c.has_lists.result c.self.view_is (c.has_lists.ensures ∙ ap (has_lists (get nat_eq c.self.inside.insertions)) c.deref.ensures.value) c.if-not-has_lists.false

pub returns-in_err-written-clause-untouched : goal.returns-in_err-written-clause-untouched
returns-in_err-written-clause-untouched c =
    some_around c.args.self.now c.self.inside.insertions.entries c.args.statements.now.items c.has_lists.result c.self.view_is (c.has_lists.ensures ∙ ap (has_lists (get nat_eq c.self.inside.insertions)) c.deref.ensures.value) c.if-not-has_lists.false

pub returns-clause-untouched : goal.returns-clause-untouched
returns-clause-untouched c =
    some_around c.args.self.now c.self.inside.insertions.entries c.args.statements.now.items c.has_lists.result c.self.view_is (c.has_lists.ensures ∙ ap (has_lists (get nat_eq c.self.inside.insertions)) c.deref.ensures.value) c.if-not-has_lists.false
