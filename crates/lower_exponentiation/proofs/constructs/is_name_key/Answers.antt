use Rattle.std.proofs.Common.{◌∙◌, sym, ap, arith, inl, inr, false, [], ◌∷◌}
use Rattle.es_tree.specs.Views.{plain}
use Rattle.lower_exponentiation.specs.Exponentiations.{has_exponentiation_key}
use Rattle.lower_temporaries.proofs.ReadAgain.{asks_fields}
use Rattle.lower_exponentiation.proofs.constructs.is_name_key.Goals as goal

pub returns-in-Identifier : goal.returns-in-Identifier
returns-in-Identifier c =
    let x = c.key.inside in
    c.is_empty.ensures ∙ sym (asks_fields (has_exponentiation_key (false ∷ false ∷ [])) c.args.key.now x.id x.span x.kind x.fields.items _ c.key.view_is
    (elim c.in-Identifier.is [ inl p ↦ λ fs. ap (λ k. has_exponentiation_key (false ∷ false ∷ []) (plain x.id x.span k fs)) p.3 | inr p ↦ λ fs. ap (λ k. has_exponentiation_key (false ∷ false ∷ []) (plain x.id x.span k fs)) p.1 ])
    (omega (arith, x.fields.ok.0)))
