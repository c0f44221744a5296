use Rattle.std.proofs.Common.{◌∙◌, ap, arith}
use Rattle.lower_temporaries.specs.SeenTrees.{no_bindings}
use Rattle.lower_exponentiation.specs.Exponentiations.{is_exponentiation_target}
use Rattle.lower_exponentiation.proofs.Rows.{assignment-heavy, lowered_assignment, opened_target}
use Rattle.lower_exponentiation.proofs.exponentiation.lower_assignment.Goals as goal

pub use_target-requires-clause-target : goal.use_target-requires-clause-target
use_target-requires-clause-target c = ap is_exponentiation_target c.take_from_parens.ensures ∙ opened_target c.args.node c.open-operator.result c.open-operator.ensures c.requires.lowerable

pub returns : goal.returns
returns c =
    lowered_assignment c.args.ctx.now c.use_target.new.ctx c.new_power_assignment.new.ctx c.args.node c.take_from_parens.result c.in_ok-made.made c.open-operator.result c.in_ok-used.used c.open-operator.ensures c.requires.lowerable c.requires.on c.take_from_parens.ensures c.in_ok-used.ensures c.in_ok-made.ensures.made
    c.in_ok-made.ensures.reads

pub new_power_assignment-requires : goal.new_power_assignment-requires
new_power_assignment-requires c =
    let used = c.in_ok-used.ensures no_bindings in
    let heavy = assignment-heavy c.args.node c.requires.assignment c.requires.lowerable in
    record { room = omega (arith, used.takes.next_is, used.few, heavy) }
