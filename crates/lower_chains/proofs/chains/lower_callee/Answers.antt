use Rattle.std.proofs.Common.{arith, ap}
use Rattle.es_traverse.specs.Loads.{load}
use Rattle.lower_temporaries.specs.SeenTrees.{no_bindings}
use Rattle.lower_temporaries.proofs.Later.{there-moved}
use Rattle.lower_chains.proofs.Chained.{tests-few, callee-lowered}
use Rattle.lower_chains.proofs.chains.lower_callee.Goals as goal

pub returns : goal.returns
returns c = λ names. callee-lowered names c.args.no_document_all c.args.ctx.now c.walk.new.ctx c.choose_callee.new.ctx c.args.node c.in_ok-made.made c.open-expression.result c.in_ok-way.way c.open-expression.ensures (c.in_ok-way.ensures.walked names) (c.in_ok-made.ensures names)

pub choose_callee-requires-clause-there : goal.choose_callee-requires-clause-there
choose_callee-requires-clause-there c = there-moved c.args.ctx.now c.walk.new.ctx (c.in_ok-way.ensures.walked no_bindings).is.takes c.requires.there

pub choose_callee-requires-clause-room : goal.choose_callee-requires-clause-room
choose_callee-requires-clause-room c =
    let k = c.in_ok-way.ensures.walked no_bindings in
    let whole = ap load c.open-expression.ensures in
    omega (arith, tests-few c.open-expression.result.expression k, k.is.takes.next_is, whole, c.requires.room)
