use Rattle.es_tree.specs.Heads.{symbol as symbol_number}
use Rattle.lower_temporaries.proofs.Takings.{refers-one}
use Rattle.lower_temporaries.proofs.readings.new_name.Goals as goal

pub returns-then-is_in_table-clause-reads : goal.returns-then-is_in_table-clause-reads
returns-then-is_in_table-clause-reads c = refers-one c.args.ctx.now c.create_ident_expr.new.self (symbol_number c.args.symbol) c.args.flags c.in_ok-node.ensures.refers c.requires.written
