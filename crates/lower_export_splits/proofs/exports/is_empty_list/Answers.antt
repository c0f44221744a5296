use Rattle.std.proofs.Common.{◌∙◌, ap, arith, sym}
use Rattle.es_tree.specs.Views.{plain_field}
use Rattle.lower_export_splits.specs.Parts.{is_empty_list}
use Rattle.lower_export_splits.proofs.Fields.{empty-list}
use Rattle.lower_export_splits.proofs.exports.is_empty_list.Goals as goal

pub returns-in-Many : goal.returns-in-Many
returns-in-Many c =
    let nodes = c.in-Many.nodes in
    c.is_empty.ensures ∙ (empty-list nodes.len nodes.items (omega (arith, nodes.ok.0)) ∙ ap (λ f. is_empty_list (plain_field f)) (sym c.in-Many.is))
