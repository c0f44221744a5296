use Rattle.std.proofs.Common.{◌∙◌, sym, ap, arith}
use Rattle.es_tree.specs.Views.{plain}
use Rattle.lower_exponentiation.specs.Exponentiations.{is_exponentiation_target}
use Rattle.lower_temporaries.proofs.ReadAgain.{asks_fields}
use Rattle.lower_exponentiation.proofs.constructs.is_target.Goals as goal

pub returns-in-Identifier : goal.returns-in-Identifier
returns-in-Identifier c =
    let x = c.target.inside in
    c.is_empty.ensures ∙ sym (asks_fields is_exponentiation_target c.args.target.now x.id x.span x.kind x.fields.items _ c.target.view_is (λ fs. ap (λ k. is_exponentiation_target (plain x.id x.span k fs)) c.in-Identifier.is) (omega (arith, x.fields.ok.0)))
