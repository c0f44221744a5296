use Rattle.std.proofs.Common.{arith, sym}
use Rattle.lower_using.proofs.PlaceTests.{fewer-labels, more-labels}
use Rattle.lower_using.proofs.places.+leads.Goals as goal

pub leads_in_label-returns-in_default : goal.leads_in_label-returns-in_default
leads_in_label-returns-in_default t c = sym (fewer-labels c.args.fields.now (omega (arith, c.in_default.len_below)))

pub leads_in_label-returns-in_default-4 : goal.leads_in_label-returns-in_default-4
leads_in_label-returns-in_default-4 t c = sym (more-labels c.args.fields.now (omega (arith, c.in_default.len_at_least)))
