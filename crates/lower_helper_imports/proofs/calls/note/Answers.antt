use Rattle.std.proofs.Common.{◌∙◌, ap}
use Rattle.std.specs.List.{list_any}
use denote.Enum.Bare.{sameb}
use Rattle.es_tree.specs.contracts.helper.Helper.{the_type}
use Rattle.lower_helper_imports.proofs.Helpers.{noted-known, noted-new}
use Rattle.lower_helper_imports.proofs.calls.note.Goals as goal

pub returns-in_ok-push : goal.returns-in_ok-push
returns-in_ok-push c =
    let h = c.args.helper in
    c.in_ok-push.ensures.items ∙ noted-new c.args.known.now.items h c.contains.result (c.contains.ensures.value ∙ ap (list_any (λ g. sameb the_type g h)) c.deref.ensures.value) c.if-not-contains.true

pub returns-else-not-contains : goal.returns-else-not-contains
returns-else-not-contains c =
    let h = c.args.helper in
    noted-known c.args.known.now.items h c.contains.result (c.contains.ensures.value ∙ ap (list_any (λ g. sameb the_type g h)) c.deref.ensures.value) c.if-not-contains.false
