use Rattle.std.proofs.Common.{◌∙◌, ap, string_bytes}
use Rattle.lower_fresh_names.specs.Names.{name_with}
use Rattle.lower_pattern_moves.specs.Parts.{assignment_with, block_with}
use Rattle.lower_pattern_moves.proofs.MovedBlocks.{assigned-moved}
use Rattle.lower_pattern_moves.proofs.Names.{makes-one}
use Rattle.lower_pattern_moves.proofs.blocks.assign_in_block.Goals as goal

pub returns : goal.returns
returns c =
    let id = c.id_of-id.result.0 in
    let t = c.args.target in
    let body = c.args.body in
    let value = c.in_ok-value.ensures ∙ ap (λ y. name_with id y) c.as_str-2.ensures.value in
    let assignment = c.in_ok-assignment.ensures ∙ ap (λ v. assignment_with id t v) value in
    assigned-moved c.args.uids.now c.generate.new.self (string_bytes c.in_ok-text.text) id t body c.in_ok-name.name c.in_ok-block.block
    (makes-one c.args.uids.now c.generate.new.self (string_bytes c.in_ok-text.text) c.in_ok-text.ensures.fresh c.in_ok-text.ensures.taken c.in_ok-text.ensures.made) c.id_of-id.ensures
    (c.in_ok-name.ensures ∙ ap (λ y. name_with id y) c.as_str.ensures.value) (c.in_ok-block.ensures ∙ ap (λ d. block_with id d body) assignment)
