use Rattle.std.proofs.Common.{◌≡◌, ◌∙◌, sym, ap, arith}
use Rattle.std.specs.Prelude.{None}
use Rattle.es_runs.specs.Weights.{weight}
use Rattle.es_steps.specs.Open.{is_statement_body}
use Rattle.es_traverse.proofs.BothHooks.{exited-body-both, kept-body, ready-body, unkept, writing-none}
use Rattle.es_traverse.proofs.Kept.{body-seen}
use Rattle.es_traverse.specs.Loads.{writing_by}
use Rattle.es_traverse.proofs.both.BothTraverse.exit_arrow_function_body.Goals as goal

pub returns-clause-kept : goal.returns-clause-kept
returns-clause-kept g c =
    let t = c.args.body.now in
    let u = c.exit_arrow_function_body.new.body in
    let same : is_statement_body u ≡ is_statement_body t = sym (body-seen (λ s x. None) u) ∙ ap is_statement_body (unkept g.B.Lowering.keeps c.args.self.now.alone (c.in_ok-exit_arrow_function_body.ensures.exited (λ s x. None))) ∙ body-seen (λ s x. None) t in
    kept-body g.A.Lowering.keeps g.B.Lowering.keeps c.args.self.now.alone _ _ _ (weight t) (weight u) t u same c.in_ok-exit_arrow_function_body.ensures.kept c.in_ok-exit_arrow_function_body-2.ensures.kept

pub returns-clause-exited : goal.returns-clause-exited
returns-clause-exited g c = λ names. exited-body-both g.A.Lowering.profile g.B.Lowering.profile (λ o. g.met.B.Traverse.lawful c.args.self.now.second o) _ _ _ g.A.Lowering.keeps g.B.Lowering.keeps c.args.self.now.alone (c.in_ok-exit_arrow_function_body.ensures.exited names) (c.in_ok-exit_arrow_function_body-2.ensures.exited names)

pub exit_arrow_function_body-requires : goal.exit_arrow_function_body-requires
exit_arrow_function_body-requires g c = record {
  ready = record { suited = c.requires.ready.suited.1; room = omega (arith, c.requires.ready.room, writing-none g.B.Lowering.keeps c.args.self.now.alone); pair = c.requires.ready.pair };
}

pub exit_arrow_function_body-requires-2 : goal.exit_arrow_function_body-requires-2
exit_arrow_function_body-requires-2 g c = record {
  ready = ready-body g.A.Lowering.suits _ g.B.Lowering.keeps c.args.self.now.alone (writing_by g.A.Lowering.keeps) (weight c.args.body.now) c.args.body.now c.in_ok-exit_arrow_function_body.ensures.kept c.requires.ready.suited.0 c.requires.ready.room c.requires.ready.pair;
}
