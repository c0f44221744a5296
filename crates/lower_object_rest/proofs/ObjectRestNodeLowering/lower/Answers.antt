use Rattle.std.proofs.Common.{ap, sym, ◌∙◌}
use Rattle.std.proofs.lemmas.Bool.{and_parts}
use Rattle.es_traverse.specs.Laws.{is_construct}
use Rattle.lower_nodes.proofs.Alike.{alike-same}
use Rattle.lower_object_rest.specs.Profile.{is_declaration}
use Rattle.lower_object_rest.specs.Shapes.{is_lowerable_declaration}
use Rattle.lower_object_rest.proofs.Whole.{alike-there, left-there, lowered-there, paid-same, paid-there}
use Rattle.lower_object_rest.proofs.ObjectRestNodeLowering.lower.Goals as goal

pub returns-then-not-lowers-clause-paid : goal.returns-then-not-lowers-clause-paid
returns-then-not-lowers-clause-paid c = paid-same c.args.ctx.now c.args.node.now

pub returns-then-not-lowers-clause-lowered : goal.returns-then-not-lowers-clause-lowered
returns-then-not-lowers-clause-lowered c = left-there c.args.ctx.now.options c.args.self.now.is_on c.requires.suited c.args.ctx.now c.args.node.now (sym c.lowers.ensures ∙ c.if-not-lowers.true)

pub returns-then-not-lowers-clause-alike : goal.returns-then-not-lowers-clause-alike
returns-then-not-lowers-clause-alike c = alike-same is_declaration c.args.node.now

pub lower_declaration-requires-clause-lowerable : goal.lower_declaration-requires-clause-lowerable
lower_declaration-requires-clause-lowerable c = ap (is_construct is_lowerable_declaration) c.replace-taken.ensures.value ∙ (and_parts c.args.self.now.is_on (is_construct is_lowerable_declaration c.args.node.now) (sym c.lowers.ensures ∙ c.if-not-lowers.false)).1

pub returns-clause-paid : goal.returns-clause-paid
returns-clause-paid c = paid-there c.args.ctx.now c.lower_declaration.new.ctx c.args.node.now c.replace-taken.result c.in_ok-node.field-0 c.replace-taken.ensures.value c.in_ok-node.ensures

pub returns-clause-lowered : goal.returns-clause-lowered
returns-clause-lowered c = lowered-there c.args.ctx.now.options c.args.self.now.is_on c.requires.suited c.args.ctx.now c.lower_declaration.new.ctx c.args.node.now c.replace-taken.result c.in_ok-node.field-0 c.replace-taken.ensures.value c.in_ok-node.ensures (sym c.lowers.ensures ∙ c.if-not-lowers.false)

pub returns-clause-alike : goal.returns-clause-alike
returns-clause-alike c = alike-there c.args.ctx.now c.lower_declaration.new.ctx c.args.node.now c.replace-taken.result c.in_ok-node.field-0 c.replace-taken.ensures.value c.in_ok-node.ensures
