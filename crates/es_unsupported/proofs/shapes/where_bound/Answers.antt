use Rattle.es_unsupported.proofs.shapes.where_bound.Goals as goal

pub returns-then-asked : goal.returns-then-asked
returns-then-asked c = λ ds binds. rw (c.if-asked.true) (c.binds_anywhere.ensures ds binds)
