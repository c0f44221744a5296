use Rattle.std.proofs.Common.{◌∙◌, ap, arith, sym}
use Rattle.es_resolution.specs.Seen.{seen}
use Rattle.lower_object_spread.proofs.Copying.{all-arguments, first-argument, some-pending}
use Rattle.lower_object_spread.proofs.copies.new_arguments.Goals as goal

pub returns-in_default-clause-made : goal.returns-in_default-clause-made
returns-in_default-clause-made c names = first-argument names c.args.copy c.args.pending.items c.in_ok-arguments.arguments.items c.in_ok-first.first c.in_default.is c.in_ok-arguments.ensures.items (ap (seen names) c.in_ok-first.ensures.made)

pub returns-clause-made : goal.returns-clause-made
returns-clause-made c names =
    all-arguments names c.args.copy c.args.pending.items c.in_ok-arguments-3.arguments.items c.new.result.items c.in-Some.copy c.in_ok-empty.empty c.in_ok-last.last c.in-Some.is (some-pending _ c.args.pending.items (sym c.is_empty.ensures ∙ c.if-is_empty.false) (omega (arith, c.args.pending.ok.0))) c.in_ok-arguments-3.ensures.items c.new.ensures.items (ap (seen names) c.in_ok-empty.ensures.made) (ap (seen names) c.in_ok-last.ensures.made)
