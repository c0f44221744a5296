use denote.Enum.Bare.{same_false}
use Rattle.std.proofs.Common.{◌∙◌, sym}
use Rattle.es_visit.specs.contracts.hook.Hook.{the_type}
use Rattle.es_traverse.proofs.NoHooks.{entered-elsewhere}
use Rattle.es_traverse.proofs.entering.OnEntryTraverse.enter_node.Goals as goal

pub returns-else-eq-clause-entered : goal.returns-else-eq-clause-entered
returns-else-eq-clause-entered g c names =
    entered-elsewhere _ _ _ (g.met.T.Enters.only c.args.ctx.now.options) c.args.hook (λ e. same_false the_type c.args.hook c.HOOK.result (sym c.eq.ensures ∙ c.if-eq.false) (e ∙ sym c.HOOK.ensures)) (g.met.T.Enters.passes c.args.ctx.now.options) c.args._site _
