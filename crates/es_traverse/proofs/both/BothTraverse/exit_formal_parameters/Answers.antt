use Rattle.es_traverse.proofs.BothHooks.{exited-parameters-both}
use Rattle.es_traverse.proofs.Kept.{same-place}
use Rattle.es_traverse.proofs.both.BothTraverse.exit_formal_parameters.Goals as goal

pub returns-clause-exited : goal.returns-clause-exited
returns-clause-exited g c = let k = c.in_ok-exit_formal_parameters.ensures.kept in λ names. exited-parameters-both g.A.Lowering.profile g.B.Lowering.profile (λ o. g.met.B.Traverse.lawful c.args.self.now.second o) _ _ _ (same-place k) k.options (c.in_ok-exit_formal_parameters.ensures.exited names) (c.in_ok-exit_formal_parameters-2.ensures.exited names)
