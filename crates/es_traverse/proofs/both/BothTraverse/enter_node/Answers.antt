use Rattle.std.proofs.Common.{arith}
use Rattle.es_traverse.proofs.BothHooks.{entered-as-both, kept-load-both, ready-later, wrapping-none}
use Rattle.es_traverse.specs.Loads.{load}
use Rattle.es_traverse.proofs.Kept.{ready-within, same-place}
use Rattle.es_traverse.proofs.both.BothTraverse.enter_node.Goals as goal

pub returns-clause-entered : goal.returns-clause-entered
returns-clause-entered g c = let k = c.in_ok-enter_node.ensures.kept in λ names. entered-as-both g.A.Lowering.profile g.B.Lowering.profile c.args.self.now.apart (λ o. g.met.A.Traverse.lawful c.args.self.now.first o) _ _ _ c.args.hook c.args.site _ _ _ (same-place k) k.options (c.in_ok-enter_node.ensures.entered names) (c.in_ok-enter_node-2.ensures.entered names)

pub enter_node-requires-2 : goal.enter_node-requires-2
enter_node-requires-2 g c = record {
  ready = ready-within _ _ (omega (arith, wrapping-none g.B.Lowering.keeps c.args.hook c.args.site c.args.self.now.alone)) (ready-later g.B.Lowering.suits _ c.in_ok-enter_node.ensures.kept c.requires.ready.suited.1 c.requires.ready.room c.requires.ready.pair);
}

pub returns-clause-kept : goal.returns-clause-kept
returns-clause-kept g c = kept-load-both g.A.Lowering.keeps g.B.Lowering.keeps c.args.hook c.args.site c.args.self.now.alone (load c.args.node.now) (load c.enter_node.new.node) c.in_ok-enter_node.ensures.kept c.in_ok-enter_node-2.ensures.kept
