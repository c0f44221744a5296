use Rattle.std.proofs.Common.{ap}
use Rattle.es_tree.specs.Heads.{head_of, label}
use Rattle.es_tree.specs.Views.{plain, plain_fields}
use Rattle.es_tree.specs.declared.kind.Kind.TheVariants.{ObjectExpression as k-ObjectExpression}
use Rattle.es_steps.specs.Nodes.{placed}
use Rattle.lower_object_spread.proofs.Rows.{lowered-literal}
use Rattle.lower_object_spread.proofs.copies.lower_literal.Goals as goal

pub returns : goal.returns
returns c =
    let e = c.open-properties.result in
    let x = c.made.inside in
    let l = label e.id e.span (head_of k-ObjectExpression) in
    lowered-literal c.args.ctx.now c.copy_properties.new.ctx l e.properties.items c.args.node c.in_ok-made.made (plain x.id e.span x.kind (plain_fields x.fields.items)) c.open-properties.ensures c.requires.lowerable c.requires.on c.in_ok-made.ensures (ap (placed l) c.made.view_is)
