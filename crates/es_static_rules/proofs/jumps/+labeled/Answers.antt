use Rattle.std.proofs.Common.{◌<◌, arith}
use Rattle.es_tree.proofs.Children.{child_smaller}
use Rattle.es_tree.specs.Tree.{tree_size}
use Rattle.es_static_rules.proofs.jumps.+labeled.Goals as goal

pub has_loop_body-is_labeled_loop-requires : goal.has_loop_body-is_labeled_loop-requires
has_loop_body-is_labeled_loop-requires t c =
    let smaller : tree_size c.in-Some.body.now < tree_size c.args.node.now = child_smaller 1 c.args.node.now c.in-Some.body.now c.in-Some.ensures in
    (omega arith, tt)
