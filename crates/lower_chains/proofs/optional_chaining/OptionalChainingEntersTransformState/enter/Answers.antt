use Rattle.std.proofs.Common.{◌∙◌, sym}
use Rattle.es_conditions.proofs.ChainRows.{chaining-keeps, law_chains_off_proof, law_chains_proof}
use Rattle.es_resolution.specs.Seen.{seen}
use Rattle.lower_temporaries.proofs.Entered.{kept-same}
use Rattle.lower_temporaries.specs.Takings.{moment_of}
use Rattle.lower_chains.proofs.Hooked.{entered-off, entered-on, kept-on}
use Rattle.lower_chains.proofs.optional_chaining.OptionalChainingEntersTransformState.enter.Goals as goal

pub returns-then-not-self-clause-kept : goal.returns-then-not-self-clause-kept
returns-then-not-self-clause-kept c = kept-same (moment_of c.args.ctx.now) c.args.expression.now

pub returns-then-not-self-clause-entered : goal.returns-then-not-self-clause-entered
returns-then-not-self-clause-entered c = λ names. entered-off law_chains_off_proof c.args.ctx.now.options (sym c.requires.ready.suited.on ∙ c.if-not-self.true) (moment_of c.args.ctx.now) (seen names c.args.expression.now)

pub returns-clause-kept : goal.returns-clause-kept
returns-clause-kept c = kept-on c.args.self.now c.args.ctx.now c.lower_node.new.ctx c.replace-taken.result c.args.expression.now _ c.replace-taken.ensures.value c.requires.ready.pair c.in_ok-expression.ensures

pub returns-clause-entered : goal.returns-clause-entered
returns-clause-entered c = entered-on law_chains_proof chaining-keeps c.args.self.now c.args.ctx.now c.lower_node.new.ctx c.replace-taken.result c.args.expression.now _ c.requires.ready.suited c.if-not-self.false c.replace-taken.ensures.value c.requires.ready.pair c.in_ok-expression.ensures
