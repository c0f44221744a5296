use Rattle.es_traverse.proofs.BothHooks.{exited-both}
use Rattle.es_traverse.proofs.Kept.{same-place}
use Rattle.es_traverse.proofs.both.BothTraverse.exit_node.Goals as goal

pub returns-clause-exited : goal.returns-clause-exited
returns-clause-exited g c = let k = c.in_ok-exit_node.ensures.kept in λ names. exited-both g.A.Lowering.profile g.B.Lowering.profile c.args.self.now.apart (λ o. g.met.B.Traverse.lawful c.args.self.now.second o) _ _ _ c.args.hook (same-place k) k.options (c.in_ok-exit_node.ensures.exited names) (c.in_ok-exit_node-2.ensures.exited names)
