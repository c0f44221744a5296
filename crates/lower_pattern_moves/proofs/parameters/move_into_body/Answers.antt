use Rattle.es_tree.specs.Tree.{trees}
use Rattle.lower_pattern_moves.proofs.MovedParameters.{body-moved}
use Rattle.lower_pattern_moves.proofs.parameters.move_into_body.Goals as goal

pub declare_first-requires : goal.declare_first-requires
declare_first-requires c = (trees c.args.parameters.items, c.requires)

pub returns : goal.returns
returns c =
    body-moved c.args.uids.now c.move_parameters.new.uids c.args.body c.in_ok-declaring.declaring (trees c.args.parameters.items) (trees c.in_ok-named.named.items) (trees c.in_ok-named.declared.items) c.in_ok-declaring.ensures c.in_ok-named.ensures
