use Rattle.std.proofs.Common.{◌≡◌, ◌∙◌, Bool, true, sym, ap, arith, string_bytes, ℕ, Option, is_some}
use Rattle.es_tree.specs.Heads.{symbol as symbol_number}
use Rattle.es_tree.specs.Tree.{Tree}
use Rattle.es_tree.specs.Views.{plain}
use Rattle.lower_temporaries.proofs.ReadAgain.{asks_fields}
use Rattle.lower_chains.specs.Spines.{but_eval, is_own_name}
use Rattle.lower_chains.proofs.SeenSpines.{alone-among}
use Rattle.lower_chains.proofs.names.is_bound_name.Goals as goal

pub returns-then-is_bound : goal.returns-then-is_bound
returns-then-is_bound c =
    let x = c.node.inside in
    let name = string_bytes c.in-Identifier.name in
    let s = symbol_number c.in-Identifier.symbol in
    let symbols : Option ℕ → Bool = is_some in
    let test : Tree → Bool = is_own_name symbols in
    let yes : but_eval symbols name s ≡ true = ap (λ y. but_eval symbols y s) (sym c.as_str.ensures.value) ∙ (sym c.is_bound.ensures ∙ c.if-is_bound.true) in
    c.is_empty.ensures ∙ sym (asks_fields test c.args.node.now x.id x.span x.kind x.fields.items _ c.node.view_is (λ gs. ap (λ k. test (plain x.id x.span k gs)) c.in-Identifier.is ∙ alone-among symbols name s gs yes) (omega (arith, x.fields.ok.0)))
