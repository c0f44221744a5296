use Rattle.std.proofs.Common.{◌∙◌, sym}
use Rattle.lower_nullish_coalescing.proofs.Coalescings.{by-reading, by-temporary}
use Rattle.lower_nullish_coalescing.proofs.coalescing.lower_coalescing.Goals as goal

pub returns-in_ok-made-clause-replaced : goal.returns-in_ok-made-clause-replaced
returns-in_ok-made-clause-replaced c =
    by-reading c.args.ctx.now c.lower_by_reading.new.ctx c.args.node c.in_ok-made.made c.open-operator.result c.open-operator.ensures c.requires.lowerable (c.reads_again.ensures.alone c.if-reads_again.true) c.in_ok-made.ensures.reads
    (λ names. sym (c.reads_again.ensures.seen names) ∙ c.if-reads_again.true) c.in_ok-made.ensures.made

pub returns-in_ok-made-2-clause-replaced : goal.returns-in_ok-made-2-clause-replaced
returns-in_ok-made-2-clause-replaced c =
    by-temporary c.args.ctx.now c.lower_by_temporary.new.ctx c.args.node c.in_ok-made-2.made c.open-operator.result c.open-operator.ensures c.requires.lowerable (λ names. sym (c.reads_again.ensures.seen names) ∙ c.if-reads_again.false) c.in_ok-made-2.ensures
