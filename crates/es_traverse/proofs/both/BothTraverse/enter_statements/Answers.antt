use Rattle.std.proofs.Common.{◌∙◌}
use Rattle.es_traverse.specs.ContextMoments.{moment}
use Rattle.es_traverse.proofs.BothHooks.{entered-list-both, opens-options, ready-in-list}
use Rattle.es_traverse.proofs.Kept.{same-place}
use Rattle.es_traverse.proofs.both.BothTraverse.enter_statements.Goals as goal

pub enter_statements-requires-2 : goal.enter_statements-requires-2
enter_statements-requires-2 g c = record { ready = ready-in-list g.B.Lowering.suits _ g.A.Lowering.keeps (moment g.S.Additions.pending c.args.ctx.now) c.in_ok-enter_statements.ensures.kept c.requires.ready.suited.1 c.requires.ready.room c.requires.ready.pair }

pub returns-clause-entered : goal.returns-clause-entered
returns-clause-entered g c = let k = c.in_ok-enter_statements.ensures.kept in λ names. entered-list-both g.A.Lowering.profile g.B.Lowering.profile c.args.self.now.apart (λ o. g.met.A.Traverse.lawful c.args.self.now.first o) _ _ _ g.A.Lowering.keeps g.B.Lowering.keeps c.args.self.now.alone (same-place k) (k.options ∙ opens-options g.A.Lowering.keeps (moment g.S.Additions.pending c.args.ctx.now)) (c.in_ok-enter_statements.ensures.entered names) (c.in_ok-enter_statements-2.ensures.entered names)
