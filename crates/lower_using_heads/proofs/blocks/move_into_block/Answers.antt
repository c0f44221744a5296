use Rattle.std.proofs.Common.{◌∙◌, ◌∷◌, [], ap, string_bytes}
use Rattle.std.specs.Prelude.{None}
use Rattle.es_tree.specs.Tree.{done, empty, node, statements, trees, ◌before◌, ◌then◌}
use Rattle.es_tree.specs.declared.ast_type.AstType.TheVariants.{BlockStatement}
use Rattle.lower_fresh_names.specs.Names.{name_with}
use Rattle.lower_using_heads.specs.Parts.{made_with, using_with}
use Rattle.lower_using_heads.proofs.MovedHeads.{block-moved}
use Rattle.lower_using_heads.proofs.blocks.move_into_block.Goals as goal

pub returns : goal.returns
returns c =
    let id = c.id_of-id.result.0 in
    let name = c.args.name in
    let body = c.args.body in
    let l = record (made_with id []) { marks = None ∷ [] } in
    let value = c.in_ok-value.ensures ∙ ap (λ y. name_with id y) c.as_str-2.ensures.value in
    let declaration = c.in_ok-declaration.ensures ∙ ap (λ v. using_with id name v) value in
    let list = ap (λ ts. node BlockStatement l (statements (trees ts) then done)) c.in_ok-from_array.ensures.items in
    let block = c.in_ok-made.ensures ∙ (list ∙ ap (λ d. node BlockStatement l (statements (d before body before empty) then done)) declaration) in
    block-moved c.args.uids.now c.generate_from_node.new.self (string_bytes c.in_ok-text.text) id name body c.in_ok-fresh.fresh c.in_ok-made.made c.in_ok-text.ensures.fresh c.in_ok-text.ensures.taken c.in_ok-text.ensures.made c.id_of-id.ensures
    (c.in_ok-fresh.ensures ∙ ap (λ y. name_with id y) c.as_str.ensures.value) block
