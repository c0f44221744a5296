use Rattle.std.proofs.Common.{arith, ◌∷◌, []}
use Rattle.es_tree.specs.Arity.{list, required}
use Rattle.es_tree.specs.ArityFacts.{fits_length}
use Rattle.es_tree.specs.Views.{plain_fields}
use Rattle.lower_pattern_moves.proofs.Shapes.{arrow-fits}
use Rattle.lower_pattern_moves.proofs.parameters.move_out_of_arrow.Goals as goal

pub exactly-requires : goal.exactly-requires
exactly-requires c = (omega arith, fits_length (list ∷ required ∷ []) c.args.fields.items (arrow-fits (plain_fields c.args.fields.items) c.requires))
