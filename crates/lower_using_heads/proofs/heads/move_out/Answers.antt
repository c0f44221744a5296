use Rattle.std.proofs.Common.{rules, tests}
use Rattle.es_tree.specs.Heads.{head_of, label}
use Rattle.es_tree.specs.Views.{plain_fields}
use Rattle.lower_using_heads.proofs.HeadShapes.{loop-moves}
use Rattle.lower_using_heads.proofs.heads.move_out.Goals as goal

pub move_out_of_head-requires : goal.move_out_of_head-requires
move_out_of_head-requires c =
    let x = c.node.inside in
    loop-moves (head_of x.kind).kind (label x.id x.span (head_of x.kind)) (plain_fields c.replace-fields.result.items) (search (rules, tests))
