use Rattle.std.proofs.Common.{sym}
use Rattle.std.proofs.lemmas.Result.{err_from_is_err_and}
use Rattle.serde_json.specs.View.{view}
use Rattle.es_tree.specs.declared.table.Sort.TheVariants.{Program as s-Program}
use Rattle.es_json.proofs.FormHasForm.{form_has_form}
use Rattle.lower_driver.specs.Sources.{IsSource}
use Rattle.lower_driver.proofs.Causes.{broken_value}
use Rattle.lower_driver.proofs.reading.read_source.Goals as goal

pub returns-clause-form : goal.returns-clause-form
returns-clause-form c = form_has_form s-Program (view c.args.value.now) c.in_ok-read.read.program c.in_ok-read.ensures.form.form

pub returns-in_err-check_static-clause-cause : goal.returns-in_err-check_static-clause-cause
returns-in_err-check_static-clause-cause c =
    let failed = err_from_is_err_and c.from_residual-in_err-check_static.result c.from_residual-in_err-check_static.ensures.1 in
    let p = c.in_ok-read.read.program in
    let source : IsSource (view c.args.value.now) p = record { form = c.in_ok-read.ensures.form; order = c.in_ok-read.ensures.order; marks = c.in_ok-read.ensures.marks } in
    rw (failed.1, failed.2) (broken_value c.args.options.now (view c.args.value.now) p c.in_err-check_static.field-0.0 source (sym c.in_default.ensures) c.in_err-check_static.ensures.err)
