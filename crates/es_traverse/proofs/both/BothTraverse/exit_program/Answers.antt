use Rattle.es_traverse.proofs.BothHooks.{exited-program-both}
use Rattle.es_traverse.proofs.both.BothTraverse.exit_program.Goals as goal

pub returns-clause-exited : goal.returns-clause-exited
returns-clause-exited g c = λ names. exited-program-both g.A.Lowering.profile g.B.Lowering.profile g.A.Lowering.ending g.B.Lowering.ending c.args.self.now.ends _ _ _ g.A.Lowering.keeps g.B.Lowering.keeps c.in_ok-exit_program.ensures.kept.options (c.in_ok-exit_program.ensures.exited names) (c.in_ok-exit_program-2.ensures.exited names)
