use Rattle.std.proofs.Common.{◌∙◌, arith, refl, sym}
use Rattle.es_tree.specs.Heads.{symbol as symbol_number}
use Rattle.es_scope.specs.ContextSymbols.{steady_symbols_of}
use Rattle.lower_nullish_coalescing.proofs.Coalescings.{name-again, this-again}
use Rattle.lower_nullish_coalescing.proofs.coalescing.reads_again.Goals as goal

pub returns-in-ThisExpression-clause-seen : goal.returns-in-ThisExpression-clause-seen
returns-in-ThisExpression-clause-seen c names =
    let x = c.left.inside in
    c.is_empty.ensures ∙ this-again (steady_symbols_of c.args.ctx.now) names c.args.left.now x.id x.span x.kind x.fields.items _ c.left.view_is c.in-ThisExpression.is (omega (arith, x.fields.ok.0))

pub returns-then-is_steady-clause-seen : goal.returns-then-is_steady-clause-seen
returns-then-is_steady-clause-seen c names =
    let x = c.left.inside in
    c.is_empty-then-is_steady.ensures ∙
    name-again (steady_symbols_of c.args.ctx.now) names c.args.left.now x.id x.span x.kind _ x.fields.items _ (symbol_number c.in-Identifier.symbol) c.left.view_is c.in-Identifier.is (omega (arith, x.fields.ok.0)) (sym c.is_steady.ensures ∙ c.if-is_steady.true) (λ gs. refl)
