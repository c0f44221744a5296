use Rattle.std.proofs.Common.{ap, arith, sym, ◌∙◌}
use Rattle.lower_temporaries.specs.SeenTrees.{no_bindings}
use Rattle.lower_chains.proofs.Chained.{delete-lowered, deleted-load, tests-few}
use Rattle.lower_chains.proofs.Shapes.{deleted-chain, left, opens-chain, right}
use Rattle.lower_chains.specs.Spines.{has_chain, has_mark, is_content, is_delete}
use Rattle.lower_temporaries.specs.Parenthesized.{first_child}
use Rattle.lower_chains.proofs.chains.lower_delete.Goals as goal

pub walk-requires-clause-room : goal.walk-requires-clause-room
walk-requires-clause-room c =
    let below = deleted-load c.args.node c.take_from_parens.result c.open-operator.result c.open-expression.result c.open-operator.ensures c.take_from_parens.ensures c.open-expression.ensures in
    omega (arith, below, c.requires.room)

pub choose_deleted-requires-clause-room : goal.choose_deleted-requires-clause-room
choose_deleted-requires-clause-room c =
    let below = deleted-load c.args.node c.take_from_parens.result c.open-operator.result c.open-expression.result c.open-operator.ensures c.take_from_parens.ensures c.open-expression.ensures in
    let k = c.in_ok-way.ensures.walked no_bindings in
    omega (arith, below, tests-few c.open-expression.result.expression k, k.is.takes.next_is, c.requires.room)

pub returns : goal.returns
returns c = λ names.
    delete-lowered names c.args.no_document_all c.args.ctx.now c.walk.new.ctx c.choose_deleted.new.ctx c.args.node c.take_from_parens.result c.in_ok-made.made c.open-operator.result c.open-expression.result c.in_ok-way.way
    c.open-operator.ensures (left (is_delete c.args.node) (has_chain (first_child c.args.node)) c.requires.deletes) c.take_from_parens.ensures c.open-expression.ensures (c.in_ok-way.ensures.walked names) (c.in_ok-made.ensures names)

pub open-expression-requires : goal.open-expression-requires
open-expression-requires c =
    let chain = c.take_from_parens.result in
    opens-chain chain (left (is_content chain) (has_mark (first_child chain)) (deleted-chain c.args.node c.open-operator.result.argument chain (sym (ap first_child c.open-operator.ensures)) c.take_from_parens.ensures c.requires.deletes))

pub choose_deleted-requires-clause-some : goal.choose_deleted-requires-clause-some
choose_deleted-requires-clause-some c =
    let chain = c.take_from_parens.result in
    let marked = right (is_content chain) (has_mark (first_child chain)) (deleted-chain c.args.node c.open-operator.result.argument chain (sym (ap first_child c.open-operator.ensures)) c.take_from_parens.ensures c.requires.deletes) in
    c.in_ok-way.ensures.marked (ap (λ t. has_mark (first_child t)) c.open-expression.ensures ∙ marked)
