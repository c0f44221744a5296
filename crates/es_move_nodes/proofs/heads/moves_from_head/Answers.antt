use Rattle.std.proofs.Common.{◌∙◌}
use Rattle.es_tree.specs.Views.{plain_fields}
use Rattle.es_move_nodes.proofs.MoveShapes.{head-three}
use Rattle.es_move_nodes.proofs.heads.moves_from_head.Goals as goal

pub returns : goal.returns
returns c = c.three_move.ensures ∙ head-three (plain_fields c.args.fields.now)
