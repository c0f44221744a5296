use Rattle.std.proofs.Common.{◌+◌, ◌*◌}
use Rattle.es_expressions.specs.MembersPlain.{plain_call_expression, plain_member_expression}
use Rattle.es_tree.specs.Tree.{tree_size}
use Rattle.lower_chains.proofs.walk.+walk.Given as goal

-- each call goes to a smaller part, or to one of the same size at a lower rank
abbrev pub decreases-continue_spine : goal.decreases-continue_spine
decreases-continue_spine l = 3 * tree_size l.node + 2

abbrev pub decreases-walk : goal.decreases-walk
decreases-walk l = 3 * tree_size l.node + 1

abbrev pub decreases-walk_call : goal.decreases-walk_call
decreases-walk_call l = 3 * tree_size (plain_call_expression l.call_expression)

abbrev pub decreases-walk_member : goal.decreases-walk_member
decreases-walk_member l = 3 * tree_size (plain_member_expression l.member)
