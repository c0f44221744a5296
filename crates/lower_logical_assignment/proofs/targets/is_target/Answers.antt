use Rattle.std.proofs.Common.{◌∙◌, sym, ap, arith}
use Rattle.es_tree.specs.Views.{plain}
use Rattle.lower_logical_assignment.specs.Assignments.{is_duplicated_target}
use Rattle.lower_temporaries.proofs.ReadAgain.{asks_fields}
use Rattle.lower_logical_assignment.proofs.targets.is_target.Goals as goal

pub returns-in-Identifier : goal.returns-in-Identifier
returns-in-Identifier c =
    let x = c.node.inside in
    c.is_empty.ensures ∙ sym (asks_fields is_duplicated_target c.args.node.now x.id x.span x.kind x.fields.items _ c.node.view_is (λ fs. ap (λ k. is_duplicated_target (plain x.id x.span k fs)) c.in-Identifier.is) (omega (arith, x.fields.ok.0)))
