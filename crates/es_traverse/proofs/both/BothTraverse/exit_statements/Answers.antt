use Rattle.es_traverse.proofs.BothHooks.{exited-list-both}
use Rattle.es_traverse.proofs.Kept.{same-place}
use Rattle.es_traverse.proofs.both.BothTraverse.exit_statements.Goals as goal

pub returns-clause-exited : goal.returns-clause-exited
returns-clause-exited g c = let k = c.in_ok-exit_statements.ensures.kept in λ names. exited-list-both g.A.Lowering.profile g.B.Lowering.profile (λ o. g.met.B.Traverse.lawful c.args.self.now.second o) _ _ _ g.A.Lowering.keeps g.B.Lowering.keeps c.args.self.now.alone (same-place k) k.options (c.in_ok-exit_statements.ensures.exited names) (c.in_ok-exit_statements-2.ensures.exited names)
