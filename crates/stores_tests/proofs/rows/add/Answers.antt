use Rattle.std.proofs.Common.{◌≤◌, ◌+◌, ap, arith, string_bytes}
use Rattle.lower_helpers.proofs.ImportIds.{ids-added}
use Rattle.lower_helpers.specs.ImportNodes.{import_ids}
use Rattle.lower_stores.specs.Imports.{by_default, by_name}
use Rattle.stores_tests.proofs.rows.add.Goals as goal

pub returns-in_ok-add_default_import : goal.returns-in_ok-add_default_import
returns-in_ok-add_default_import c =
    let old = c.args.store.now in
    let e = ap import_ids c.in_ok-add_default_import.ensures.added in
    let more = ids-added (string_bytes c.in_ok-source.source) (by_default (string_bytes c.in_ok-text.field-0) 3) c.args.front old in
    record { few = omega (arith, e, more) }

pub returns-in_ok-add_named_import : goal.returns-in_ok-add_named_import
returns-in_ok-add_named_import c =
    let old = c.args.store.now in
    let e = ap import_ids c.in_ok-add_named_import.ensures.added in
    let more = ids-added (string_bytes c.in_ok-source.source) (by_name (string_bytes c.in_ok-text-2.field-0) (string_bytes c.in_ok-text.field-0) 3) c.args.front old in
    record { few = omega (arith, e, more) }
