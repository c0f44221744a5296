use Rattle.es_traverse.proofs.NoHooks.{exited-elsewhere, goes-out-uncounted}
use Rattle.es_traverse.proofs.entering.OnEntryTraverse.exit_node.Goals as goal

pub returns-clause-exited : goal.returns-clause-exited
returns-clause-exited g c names = exited-elsewhere _ _ (g.met.T.Enters.none_late c.args._ctx.now.options) _ _

pub returns-clause-goes : goal.returns-clause-goes
returns-clause-goes g c = goes-out-uncounted _ _ _ c.requires.ready.suited _ _
