use Rattle.std.proofs.Common.{sym}
use Rattle.es_using_nodes.proofs.HeadShapes.{other-lists}
use Rattle.es_using_nodes.proofs.heads.listed_name.Goals as goal

pub returns-then-fields-ne1 : goal.returns-then-fields-ne1
returns-then-fields-ne1 c = sym (other-lists c.args.fields.now c.if-fields-ne1.true)
