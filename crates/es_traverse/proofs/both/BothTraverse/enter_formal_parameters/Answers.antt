use Rattle.es_traverse.proofs.BothHooks.{entered-parameters-both}
use Rattle.es_traverse.proofs.Kept.{same-place}
use Rattle.es_traverse.proofs.both.BothTraverse.enter_formal_parameters.Goals as goal

pub returns-clause-entered : goal.returns-clause-entered
returns-clause-entered g c = let k = c.in_ok-enter_formal_parameters.ensures.kept in λ names. entered-parameters-both g.A.Lowering.profile g.B.Lowering.profile c.args.self.now.apart (λ o. g.met.A.Traverse.lawful c.args.self.now.first o) _ _ _ (same-place k) k.options (c.in_ok-enter_formal_parameters.ensures.entered names) (c.in_ok-enter_formal_parameters-2.ensures.entered names)
