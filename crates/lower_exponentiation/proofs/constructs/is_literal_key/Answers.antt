use Rattle.std.proofs.Common.{◌∙◌, sym, ap, arith, inl, inr}
use Rattle.es_tree.specs.Views.{plain}
use Rattle.es_runs.specs.Exponentiation.{is_literal_key}
use Rattle.lower_temporaries.proofs.ReadAgain.{asks_fields}
use Rattle.lower_exponentiation.proofs.constructs.is_literal_key.Goals as goal

pub returns-in-NullLiteral : goal.returns-in-NullLiteral
returns-in-NullLiteral c =
    let x = c.key.inside in
    c.is_empty.ensures ∙ sym (asks_fields is_literal_key c.args.key.now x.id x.span x.kind x.fields.items _ c.key.view_is
    (elim c.in-NullLiteral.is [
      | inl e ↦ λ fs. ap (λ k. is_literal_key (plain x.id x.span k fs)) e
      | inr (inl p) ↦ λ fs. ap (λ k. is_literal_key (plain x.id x.span k fs)) p.1
      | inr (inr (inl p)) ↦ λ fs. ap (λ k. is_literal_key (plain x.id x.span k fs)) p.2
      | inr (inr (inr (inl p))) ↦ λ fs. ap (λ k. is_literal_key (plain x.id x.span k fs)) p.2
      | inr (inr (inr (inr p))) ↦ λ fs. ap (λ k. is_literal_key (plain x.id x.span k fs)) p.1
    ])
    (omega (arith, x.fields.ok.0)))
