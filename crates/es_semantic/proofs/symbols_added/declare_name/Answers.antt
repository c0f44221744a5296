use Rattle.std.proofs.Common.{◌≡◌, false, sym, ◌∙◌}
use Rattle.es_semantic.specs.SymbolsOf.{is_bound, symbol_flags}
use Rattle.es_scope.specs.TableChanges.{HasBindingMore}
use Rattle.es_semantic.proofs.HeldTables.{Holds-symbol}
use Rattle.es_semantic.proofs.SymbolPlaces.{found-bound, with_symbol-known, with_symbol-new}
use Rattle.es_semantic.proofs.symbols_added.declare_name.Goals as goal

pub returns-then-is_some-clause-declared : goal.returns-then-is_some-clause-declared
returns-then-is_some-clause-declared c = λ rows ds holds.
    let s = c.args.scope.0 in let x = c.args.name.now in
    let bound = found-bound ds s x c.get_binding.result (c.get_binding.ensures.binding ∙ holds.bindings s x) in
    rw (with_symbol-known ds s x c.args.binding (sym bound ∙ sym c.if-is_some.ensures)) holds

pub returns-clause-declared : goal.returns-clause-declared
returns-clause-declared c = λ rows ds holds.
    let s = c.args.scope.0 in let x = c.args.name.now in
    let bound = found-bound ds s x c.get_binding.result (c.get_binding.ensures.binding ∙ holds.bindings s x) in
    let free : is_bound ds s x ≡ false = sym bound ∙ sym c.if-is_some.ensures in
    let more : HasBindingMore c.args.scoping.now c.add_binding.new.self s x (symbol_flags c.args.binding) =
    rw (← c.symbol_flags.ensures, ← c.in_ok-name.ensures.ok) c.in_ok-add_binding.ensures.added in
    rw (with_symbol-new ds s x c.args.binding free) (Holds-symbol rows ds c.args.scoping.now c.add_binding.new.self s x c.args.binding free more holds)
