use Rattle.std.proofs.Common.{◌≡◌, ◌+◌, suc, ap, sym, ◌∙◌, drop, arith}
use Rattle.lower_helper_imports.specs.Parts.{imports_before}
use Rattle.lower_helper_imports.proofs.ImportPlaces.{import-left, import-passed, imports-end}
use Rattle.lower_helper_imports.proofs.statements.imports_before.Goals as goal

pub returns-then-not-is_import : goal.returns-then-not-is_import
returns-then-not-is_import c =
    omega (arith, c.loop-index.invariant, import-left c.args.statements.now c.loop-index.index c.index-statements-index.result c.loop-index-test.true c.index-statements-index.is (sym c.is_import.ensures ∙ c.if-not-is_import.true))

pub loop-index-preserved : goal.loop-index-preserved
loop-index-preserved c =
    let more : suc c.loop-index.index ≡ c.loop-index.index + 1 = omega arith in
    let next = ap (λ i. imports_before (drop i c.args.statements.now)) more in
    omega (arith, next, c.loop-index.invariant, import-passed c.args.statements.now c.loop-index.index c.index-statements-index.result c.loop-index-test.true c.index-statements-index.is (sym c.is_import.ensures ∙ c.if-not-is_import.false))

pub returns : goal.returns
returns c = omega (arith, c.loop-index.invariant, imports-end c.args.statements.now c.loop-index.index c.loop-index-test.false)
