use Rattle.lower_pattern_moves.proofs.MovedBlocks.{target-moved}
use Rattle.lower_pattern_moves.proofs.blocks.move_target.Goals as goal

pub returns : goal.returns
returns c = target-moved c.requires.moves c.requires.kind c.id_of-id.ensures c.in_ok-declaration.ensures c.in_ok-moved.ensures.items c.in_ok-name.ensures
