use Rattle.std.proofs.Common.{arith, ◌∷◌, []}
use Rattle.es_tree.specs.Arity.{required}
use Rattle.es_tree.specs.ArityFacts.{fits_length}
use Rattle.es_tree.specs.Views.{plain_fields}
use Rattle.lower_pattern_moves.proofs.Shapes.{head-fits}
use Rattle.lower_pattern_moves.proofs.blocks.move_out_of_head.Goals as goal

pub exactly-requires : goal.exactly-requires
exactly-requires c = (omega arith, fits_length (required ∷ required ∷ required ∷ []) c.args.fields.items (head-fits (plain_fields c.args.fields.items) c.requires))
