use Rattle.std.proofs.Common.{◌≡◌, ◌∙◌, ◌++◌, List, None, Option, ℕ, ap, arith, map, subst, sym}
use Rattle.std.specs.Prelude.{Bool, option_map, string_bytes}
use Rattle.es_tree.specs.Words.{Text}
use Rattle.es_excluded_keys.specs.ExcludedKeys.{names_itself, shares_keys}
use Rattle.es_helper_calls.specs.Importing.{imports_helpers, own_call}
use Rattle.es_scope.specs.Contexts.{made_of}
use Rattle.lower_helper_imports.specs.HelperImports.{number_of}
use Rattle.lower_driver.specs.Imports.{Imports}
use Rattle.lower_driver.specs.Lowers.{Lowers, LowersInPlace}
use Rattle.lower_driver.specs.Sets.{Sets, sets_this}
use Rattle.lower_driver.specs.SharesKeys.{SharesKeys}
use Rattle.lower_driver.specs.UnsupportedPrograms.{IsFirstOrMemory, IsUnsupportedOrMemory, first_refused}
use Rattle.lower_driver.specs.Uses.{lowers_using}
use Rattle.lower_driver.proofs.Moved.{map-joined}
use Rattle.lower_driver.proofs.Shared.{shared-program, shares-as}
use Rattle.lower_driver.proofs.Stages.{cause-of, given-on, lowers, moved-valid, topped-valid, used-and-moved-size}
use Rattle.lower_driver.proofs.Tops.{tops-as}
use Rattle.lower_driver.proofs.Used.{heads-as, uses-as}
use Rattle.lower_driver.proofs.driver.lower_constructs.Goals as goal

pub move_patterns-requires : goal.move_patterns-requires
move_patterns-requires c = record { form = (topped-valid c.args.options.now c.args.read.program c.in_ok-split.split.program c.in_ok-headed.headed.program c.in_ok-used.used.program c.in_ok-topped.topped.program c.asks_for_using-asked.result (map string_bytes c.in_ok-headed.names.items) (map string_bytes c.in_ok-used.contexts.items) (map string_bytes c.in_ok-topped.top.items) c.requires.form c.requires.kept c.asks_for_using-asked.ensures c.in_ok-split.ensures.splits c.in_ok-headed.ensures.heads c.in_ok-used.ensures.uses c.in_ok-topped.ensures.tops).form }

pub lower_in_place-requires-clause-form : goal.lower_in_place-requires-clause-form
lower_in_place-requires-clause-form c = (moved-valid c.args.options.now c.in_ok-topped.topped.program c.in_ok-moved.moved.program (map string_bytes c.in_ok-moved.first.items) (topped-valid c.args.options.now c.args.read.program c.in_ok-split.split.program c.in_ok-headed.headed.program c.in_ok-used.used.program c.in_ok-topped.topped.program c.asks_for_using-asked.result (map string_bytes c.in_ok-headed.names.items) (map string_bytes c.in_ok-used.contexts.items) (map string_bytes c.in_ok-topped.top.items) c.requires.form c.requires.kept c.asks_for_using-asked.ensures c.in_ok-split.ensures.splits c.in_ok-headed.ensures.heads c.in_ok-used.ensures.uses c.in_ok-topped.ensures.tops) c.in_ok-moved.ensures.moves).form

pub lower_in_place-requires-clause-kept : goal.lower_in_place-requires-clause-kept
lower_in_place-requires-clause-kept c = (moved-valid c.args.options.now c.in_ok-topped.topped.program c.in_ok-moved.moved.program (map string_bytes c.in_ok-moved.first.items) (topped-valid c.args.options.now c.args.read.program c.in_ok-split.split.program c.in_ok-headed.headed.program c.in_ok-used.used.program c.in_ok-topped.topped.program c.asks_for_using-asked.result (map string_bytes c.in_ok-headed.names.items) (map string_bytes c.in_ok-used.contexts.items) (map string_bytes c.in_ok-topped.top.items) c.requires.form c.requires.kept c.asks_for_using-asked.ensures c.in_ok-split.ensures.splits c.in_ok-headed.ensures.heads c.in_ok-used.ensures.uses c.in_ok-topped.ensures.tops) c.in_ok-moved.ensures.moves).kept

pub lower_in_place-requires-clause-size : goal.lower_in_place-requires-clause-size
lower_in_place-requires-clause-size c =
    let size = used-and-moved-size c.args.options.now c.args.read.program c.in_ok-split.split.program c.in_ok-headed.headed.program c.in_ok-used.used.program c.in_ok-topped.topped.program c.in_ok-moved.moved.program (map string_bytes c.in_ok-headed.names.items) (map string_bytes c.in_ok-used.contexts.items) (map string_bytes c.in_ok-topped.top.items) (map string_bytes c.in_ok-moved.first.items) c.requires.form c.in_ok-split.ensures.splits (heads-as c.asks_for_using-asked.ensures c.in_ok-headed.ensures.heads) (uses-as c.asks_for_using-asked.ensures c.in_ok-used.ensures.uses) (tops-as c.asks_for_using-asked.ensures c.in_ok-topped.ensures.tops) c.in_ok-moved.ensures.moves in
    omega (arith, size, c.requires.size)

pub lower_in_place-requires-clause-next : goal.lower_in_place-requires-clause-next
lower_in_place-requires-clause-next c = omega (arith, c.in_ok-moved.ensures.next, c.in_ok-topped.ensures.next, c.in_ok-used.ensures.next, c.in_ok-headed.ensures.next, c.in_ok-split.ensures.next, c.requires.next, c.requires.size)

pub share_keys-requires : goal.share_keys-requires
share_keys-requires c = record { form = c.in_ok-lowered.ensures.lowers.result.result.form }

pub import_helpers-requires : goal.import_helpers-requires
import_helpers-requires c =
    let there = c.in_ok-lowered.ensures.lowers.result.result in
    record { form = (shared-program c.shares_keys-shares.result c.in_ok-lowered.lowered c.in_ok-shared.shared (map string_bytes c.in_ok-shared.keys.items) there.form there.kept c.in_ok-shared.ensures.shares).0 }

pub of_program-imports-requires : goal.of_program-imports-requires
of_program-imports-requires c = (moved-valid c.args.options.now c.in_ok-topped.topped.program c.in_ok-moved.moved.program (map string_bytes c.in_ok-moved.first.items) (topped-valid c.args.options.now c.args.read.program c.in_ok-split.split.program c.in_ok-headed.headed.program c.in_ok-used.used.program c.in_ok-topped.topped.program c.asks_for_using-asked.result (map string_bytes c.in_ok-headed.names.items) (map string_bytes c.in_ok-used.contexts.items) (map string_bytes c.in_ok-topped.top.items) c.requires.form c.requires.kept c.asks_for_using-asked.ensures c.in_ok-split.ensures.splits c.in_ok-headed.ensures.heads c.in_ok-used.ensures.uses c.in_ok-topped.ensures.tops) c.in_ok-moved.ensures.moves).form

pub returns-clause-lowers : goal.returns-clause-lowers
returns-clause-lowers c =
    let o = c.args.options.now in
    let s = c.args.read.program in
    let p = c.in_ok-split.split.program in
    let q = c.in_ok-moved.moved.program in
    let imported = c.in_ok-imported.imported in
    let written = c.in_ok-program.program in
    let heads = c.in_ok-headed.names.items in
    let contexts = c.in_ok-used.contexts.items in
    let tops = c.in_ok-topped.top.items in
    let first = c.in_ok-moved.first.items in
    let later = c.into_uids.result.items in
    let keys = c.in_ok-shared.keys.items in
    let last = c.in_ok-imported.last.items in
    let made = c.asks_for_using-asked.ensures in
    let own = c.own_call-own.ensures in
    let asked = c.are_asked.ensures o c.asks_for_using-asked.result (option_map number_of c.own_call-own.result) q c.of_program-imports.ensures ∙ ap (λ b. imports_helpers o b q) made in
    let shared = c.in_ok-shared.shared in
    let sharing = c.shares_keys-shares.ensures ∙ shares-as o c.names_itself-named.result (names_itself p) q c.names_itself-named.ensures in
    let shares : SharesKeys (shares_keys o (names_itself p) q) c.in_ok-lowered.lowered shared (map string_bytes keys) = subst (λ (on : Bool). SharesKeys on c.in_ok-lowered.lowered shared (map string_bytes keys)) sharing c.in_ok-shared.ensures.shares in
    let imports : Imports (imports_helpers o (lowers_using o p) q) (string_bytes o.helper_loader.module_name) shared imported (map string_bytes last) =
    subst (λ (on : Bool). Imports on (string_bytes o.helper_loader.module_name) shared imported (map string_bytes last)) asked c.in_ok-imported.ensures.imports in
    let in_place : LowersInPlace o q c.in_ok-lowered.lowered (map string_bytes later) = subst (λ (names : List Text). LowersInPlace o q c.in_ok-lowered.lowered names) (sym c.into_uids.ensures) c.in_ok-lowered.ensures.lowers in
    let sets : Sets (sets_this o s) (map string_bytes later) imported written =
    subst (λ (names : List Text). Sets (sets_this o s) names imported written) (sym c.into_uids.ensures) (subst (λ (on : Bool). Sets on (made_of c.in_ok-lowered.ctx) imported written) c.sets_this-sets.ensures c.in_ok-program.ensures) in
    let none : first_refused o (lowers_using o p) (own_call o p) q ≡ None = (λ i. first_refused o (sym made i) (sym own i) q) ∙ c.in_ok-lowered.ensures.taken in
    let made : Lowers o s written (map string_bytes heads ++ map string_bytes contexts ++ map string_bytes tops ++ map string_bytes first ++ map string_bytes later ++ map string_bytes keys ++ map string_bytes last) =
    lowers o s p c.in_ok-headed.headed.program c.in_ok-used.used.program c.in_ok-topped.topped.program q c.in_ok-lowered.lowered shared imported written (map string_bytes heads) (map string_bytes contexts) (map string_bytes tops) (map string_bytes first) (map string_bytes later) (map string_bytes keys) (map string_bytes last) c.requires.form c.requires.kept c.in_ok-split.ensures.splits (heads-as c.asks_for_using-asked.ensures c.in_ok-headed.ensures.heads) (uses-as c.asks_for_using-asked.ensures c.in_ok-used.ensures.uses) (tops-as c.asks_for_using-asked.ensures c.in_ok-topped.ensures.tops) c.in_ok-moved.ensures.moves none in_place shares imports sets c.requires.some in
    let four = ((heads ++ contexts) ++ tops) ++ first in
    let joined =
    ap (map string_bytes)
    (c.in_ok-append-6.ensures.items ∙ ap (λ xs. xs ++ last) (c.in_ok-append-5.ensures.items ∙ ap (λ xs. xs ++ keys) (c.in_ok-append-4.ensures.items ∙ ap (λ xs. xs ++ later) (c.in_ok-append-3.ensures.items ∙ ap (λ xs. xs ++ first) (c.in_ok-append-2.ensures.items ∙ ap (λ xs. xs ++ tops) c.in_ok-append.ensures.items)))))
    ∙ map-joined string_bytes ((four ++ later) ++ keys) last ∙ ap (λ xs. xs ++ map string_bytes last) (map-joined string_bytes (four ++ later) keys)
    ∙ ap (λ xs. (xs ++ map string_bytes keys) ++ map string_bytes last)
    (map-joined string_bytes four later ∙ ap (λ xs. xs ++ map string_bytes later) (map-joined string_bytes ((heads ++ contexts) ++ tops) first ∙ ap (λ xs. xs ++ map string_bytes first) (map-joined string_bytes (heads ++ contexts) tops ∙ ap (λ xs. xs ++ map string_bytes tops) (map-joined string_bytes heads contexts)))) in
    subst (λ (names : List Text). Lowers o s written names) (sym joined) made

pub returns-clause-taken : goal.returns-clause-taken
returns-clause-taken c = record {
  split = c.in_ok-split.split.program;
  splits = c.in_ok-split.ensures.splits;
  headed = c.in_ok-headed.headed.program;
  head_names = map string_bytes c.in_ok-headed.names.items;
  heads = heads-as c.asks_for_using-asked.ensures c.in_ok-headed.ensures.heads;
  used = c.in_ok-used.used.program;
  context_names = map string_bytes c.in_ok-used.contexts.items;
  uses = uses-as c.asks_for_using-asked.ensures c.in_ok-used.ensures.uses;
  topped = c.in_ok-topped.topped.program;
  top_names = map string_bytes c.in_ok-topped.top.items;
  tops = tops-as c.asks_for_using-asked.ensures c.in_ok-topped.ensures.tops;
  moved = c.in_ok-moved.moved.program;
  names = map string_bytes c.in_ok-moved.first.items;
  moves = c.in_ok-moved.ensures.moves;
  first = (λ i. first_refused c.args.options.now (sym c.asks_for_using-asked.ensures i) (sym c.own_call-own.ensures i) c.in_ok-moved.moved.program) ∙ c.in_ok-lowered.ensures.taken;
}

pub returns-in_err-lowered-clause-cause : goal.returns-in_err-lowered-clause-cause
returns-in_err-lowered-clause-cause c =
    let o = c.args.options.now in
    let s = c.args.read.program in
    let p = c.in_ok-split.split.program in
    let q = c.in_ok-moved.moved.program in
    let error = c.in_err-lowered.field-0.0 in
    let first = subst (λ (b : Bool). IsFirstOrMemory o b (own_call o p) q error) c.asks_for_using-asked.ensures (subst (λ (n : Option ℕ). IsFirstOrMemory o c.asks_for_using-asked.result n q error) c.own_call-own.ensures c.in_err-lowered.ensures.cause) in
    given-on c.from_residual-in_err-lowered.result error (IsUnsupportedOrMemory o s) c.from_residual-in_err-lowered.ensures.1
    (cause-of o s p c.in_ok-headed.headed.program c.in_ok-used.used.program c.in_ok-topped.topped.program q (map string_bytes c.in_ok-headed.names.items) (map string_bytes c.in_ok-used.contexts.items) (map string_bytes c.in_ok-topped.top.items) (map string_bytes c.in_ok-moved.first.items) error c.in_ok-split.ensures.splits (heads-as c.asks_for_using-asked.ensures c.in_ok-headed.ensures.heads) (uses-as c.asks_for_using-asked.ensures c.in_ok-used.ensures.uses) (tops-as c.asks_for_using-asked.ensures c.in_ok-topped.ensures.tops) c.in_ok-moved.ensures.moves first)
