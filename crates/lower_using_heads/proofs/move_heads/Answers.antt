use Rattle.std.proofs.Common.{map, string_bytes}
use Rattle.es_steps.specs.CoreBridge.{first_whole}
use Rattle.lower_using_heads.proofs.HeadWalks.{heads-to}
use Rattle.lower_using_heads.proofs.move_heads.Goals as goal

pub returns : goal.returns
returns c =
    heads-to c.in_ok-uids.uids c.walk_node.new.uids (first_whole c.args.program).in_use c.args.program c.walk_node.new.node (map string_bytes c.into_made.result.items) c.in_ok-uids.ensures.in_use c.in_ok-uids.ensures.none_made c.in_ok-walk_node.ensures c.into_made.ensures
