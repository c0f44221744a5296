use Rattle.std.proofs.Common.{◌≤◌, Option, Some, None, arith, is_some, refl, sym, ap, ◌∙◌, ◌≡◌}
use Rattle.es_tree.specs.Heads.{symbol}
use Rattle.es_tree.specs.declared.ids.SymbolId.{SymbolId}
use Rattle.es_scope.specs.Tables.{scope_count}
use Rattle.es_unsupported.proofs.Unbound.{named_in, named_nowhere, none_bound}
use Rattle.es_unsupported.proofs.names.binds_anywhere.Goals as goal

some-symbol : (r : Option SymbolId) → is_some r ≡ is_some (symbol r)
some-symbol None = refl
some-symbol (Some s) = refl

pub returns-then-is_some : goal.returns-then-is_some
returns-then-is_some c = λ ds binds.
    let n = c.loop-number.number in let x = c.args.name.now in
    sym (named_in ds n x (sym (ap is_some (binds n x)) ∙ (sym (ap is_some c.get_binding.ensures.binding) ∙ (sym (some-symbol c.get_binding.result) ∙ sym (c.if-is_some.ensures)))))

pub returns : goal.returns
returns c = λ ds binds.
    let s = c.args.scoping.now in let x = c.args.name.now in
    let all : scope_count s ≤ c.loop-number.number = omega (arith, c.loop-number-test.false, c.in-Ok.ensures, c.scope_count.ensures) in
    sym (named_nowhere ds x (λ n. sym (binds n x) ∙ none_bound s x c.loop-number.number all c.loop-number.invariant n))
