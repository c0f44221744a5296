use Rattle.std.proofs.Common.{◌≡◌, ◌∙◌, List, None, Some, ap, length, position, string_bytes, subst, sym, ℕ}
use Rattle.std.specs.Map.{keys_of}
use Rattle.std.specs.String.{string_eq}
use Rattle.std.proofs.lemmas.Result.{err_from_is_err_and}
use Rattle.indexmap.proofs.MapLemmas.{Missing-position}
use Rattle.indexmap.proofs.CallerLemmas.{insert_entry-new}
use Rattle.lower_stores.proofs.ImportLemmas.{Entry, kept_sources, last_place, names, new_source, place_found, place_kept, pushed_sources}
use Rattle.es_tree.specs.Words.{Text}
use Rattle.lower_stores.specs.Imports.{IsPlaceOf}
use Rattle.lower_stores.specs.PlainImports.{plain_sources}
use Rattle.lower_stores.proofs.module_imports.push_import.Goals as goal

pub returns-in_err-push-in-Some-clause-kept : goal.returns-in_err-push-in-Some-clause-kept
returns-in_err-push-in-Some-clause-kept c =
    let p = err_from_is_err_and c.from_residual.result c.from_residual.ensures.1 in
    rw p.1 (kept_sources c.args.imports.now.entries c.in-Some.index c.push.new.self c.index_mut.result.now c.index_mut.ensures.value c.in_err-push-in-Some.ensures.items)

pub returns-in_ok-push-in-Some-clause-pushed : goal.returns-in_ok-push-in-Some-clause-pushed
returns-in_ok-push-in-Some-clause-pushed c =
    let source = string_bytes c.args.source in
    let es = c.args.imports.now.entries in
    let found : position (names source) (keys_of es) ≡ Some c.in-Some.index = ap (λ (t : Text). position (names t) (keys_of es)) (sym c.as_str.ensures.value) ∙ sym c.in-Some.ensures.index in
    pushed_sources source es c.in-Some.index c.push.new.self c.index_mut.result.now c.args.import (place_found source es c.in-Some.index found) c.index_mut.ensures.value c.in_ok-push-in-Some.ensures.items

pub returns-in_ok-push-in-Some-clause-place : goal.returns-in_ok-push-in-Some-clause-place
returns-in_ok-push-in-Some-clause-place c =
    let source = string_bytes c.args.source in
    let es = c.args.imports.now.entries in
    let found : position (names source) (keys_of es) ≡ Some c.in-Some.index = ap (λ (t : Text). position (names t) (keys_of es)) (sym c.as_str.ensures.value) ∙ sym c.in-Some.ensures.index in
    place_kept source es c.in-Some.index c.in-Some.index c.push.new.self (place_found source es c.in-Some.index found)

pub returns-in_ok-insert-in-None-clause-pushed : goal.returns-in_ok-insert-in-None-clause-pushed
returns-in_ok-insert-in-None-clause-pushed c =
    let es = c.args.imports.now.entries in
    let key = c.args.source in
    let none : position (names (string_bytes key)) (keys_of es) ≡ None = ap (λ (t : Text). position (names t) (keys_of es)) (sym c.as_str.ensures.value) ∙ sym c.in-None.ensures.index in
    let missing = Missing-position (names (string_bytes key)) es none in
    ap plain_sources (c.in_ok-insert-in-None.ensures.entries ∙ insert_entry-new string_eq c.args.imports.now key c.in_ok-list-in-None.list missing.value)
    ∙ new_source es key c.in_ok-list-in-None.list c.args.import missing.absent c.in_ok-list-in-None.ensures.items

pub returns-in_ok-insert-in-None-clause-place : goal.returns-in_ok-insert-in-None-clause-place
returns-in_ok-insert-in-None-clause-place c =
    let es = c.args.imports.now.entries in
    let key = c.args.source in
    let none : position (names (string_bytes key)) (keys_of es) ≡ None = ap (λ (t : Text). position (names t) (keys_of es)) (sym c.as_str.ensures.value) ∙ sym c.in-None.ensures.index in
    let missing = Missing-position (names (string_bytes key)) es none in
    let entries = c.in_ok-insert-in-None.ensures.entries ∙ insert_entry-new string_eq c.args.imports.now key c.in_ok-list-in-None.list missing.value in
    subst (λ (i : ℕ). IsPlaceOf (string_bytes key) (plain_sources c.insert.new.self.entries) i) (sym c.len-index.ensures.len)
    (subst (λ (l : List Entry). IsPlaceOf (string_bytes key) (plain_sources l) (length es)) (sym entries) (last_place es key c.in_ok-list-in-None.list missing.absent))
