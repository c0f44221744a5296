use Rattle.es_tree.specs.Words.{variable_declaration_kind_text}
use Rattle.lower_pattern_moves.proofs.MovedBlocks.{declaration-moved}
use Rattle.lower_pattern_moves.proofs.blocks.move_declaration.Goals as goal

pub returns : goal.returns
returns c = declaration-moved (variable_declaration_kind_text c.open_head-kind.result.0) c.requires.moves c.open_head-kind.ensures c.id_of-id.ensures c.in_ok-declaration.ensures c.in_ok-moved.ensures.items c.in_ok-name.ensures
