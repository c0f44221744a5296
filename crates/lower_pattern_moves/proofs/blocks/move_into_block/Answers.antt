use Rattle.std.proofs.Common.{◌∙◌, ap, string_bytes}
use Rattle.es_tree.specs.Tree.{one}
use Rattle.es_tree.specs.Words.{variable_declaration_kind_text}
use Rattle.lower_fresh_names.specs.Names.{name_with}
use Rattle.lower_pattern_moves.specs.Parts.{block_with, declaration_with}
use Rattle.lower_pattern_moves.proofs.MovedBlocks.{block-moved}
use Rattle.lower_pattern_moves.proofs.Names.{makes-one}
use Rattle.lower_pattern_moves.proofs.blocks.move_into_block.Goals as goal

pub returns : goal.returns
returns c =
    let kind = variable_declaration_kind_text c.args.kind in
    let id = c.id_of-id.result.0 in
    let p = c.args.pattern in
    let body = c.args.body in
    let value = c.in_ok-value.ensures ∙ ap (λ y. name_with id y) c.as_str-2.ensures.value in
    let declaration = c.in_ok-declaration.ensures ∙ ap (λ v. declaration_with id kind p (one v)) value in
    block-moved c.args.uids.now c.generate.new.self kind (string_bytes c.in_ok-text.text) id p body c.in_ok-name.name c.in_ok-block.block
    (makes-one c.args.uids.now c.generate.new.self (string_bytes c.in_ok-text.text) c.in_ok-text.ensures.fresh c.in_ok-text.ensures.taken c.in_ok-text.ensures.made) c.id_of-id.ensures
    (c.in_ok-name.ensures ∙ ap (λ y. name_with id y) c.as_str.ensures.value) (c.in_ok-block.ensures ∙ ap (λ d. block_with id d body) declaration)
