use Rattle.std.proofs.Common.{◌∙◌, ap, sym}
use Rattle.es_tree.specs.Tree.{trees}
use Rattle.es_steps.specs.Nodes.{joined_trees}
use Rattle.es_steps.proofs.Lists.{joined-empty}
use Rattle.es_export_splits.specs.Splits.{plainly, specifiers}
use Rattle.lower_export_splits.proofs.Fields.{names-of-declarator, names_of}
use Rattle.lower_export_splits.proofs.specifiers.add_of_declarator.Goals as goal

pub returns-in-None : goal.returns-in-None
returns-in-None c =
    let old = trees c.args.made.now.items in
    let none = names-of-declarator c.args.declarator.now ∙ ap names_of (sym c.in-None.ensures) in
    sym (ap (λ xs. joined_trees old (specifiers plainly xs)) none ∙ joined-empty old)
