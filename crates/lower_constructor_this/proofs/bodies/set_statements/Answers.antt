use Rattle.std.proofs.Common.{◌≡◌, ◌∙◌, Some, ap, sym}
use Rattle.std.proofs.lemmas.Result.{on_ok_weaker}
use Rattle.es_tree.specs.Fresh.{is_among}
use Rattle.es_tree.specs.Tree.{trees}
use Rattle.es_scope.specs.Contexts.{made_of}
use Rattle.lower_constructor_this.specs.Parts.{name_to_set}
use Rattle.lower_constructor_this.proofs.Settings.{set-first}
use Rattle.lower_constructor_this.proofs.bodies.set_statements.Goals as goal

pub returns : goal.returns
returns g c =
    let made = is_among (made_of c.args.ctx.now) in
    let ts = c.args.statements.now.items in
    let y = c.as_str.result.now in
    let text : y ≡ c.in-Some.found.now = c.as_str.ensures.value ∙ c.in_ok-name.ensures.ok in
    let named : name_to_set made (trees ts) ≡ Some y = sym (c.in-Some.ensures ∙ ap (λ us. name_to_set made (trees us)) c.as_slice.ensures.value) ∙ ap Some (sym text) in
    on_ok_weaker c.set_in_list.result (λ h. h ∙ set-first made ts c.index_mut.result.now c.remove_value.new.declaration y named c.index_mut.ensures.value c.remove_value.ensures) c.set_in_list.ensures
