use Rattle.std.proofs.Common.{sym}
use Rattle.es_using_nodes.proofs.HeadShapes.{other-parts}
use Rattle.es_using_nodes.proofs.heads.bare_name.Goals as goal

pub returns-then-fields-ne2 : goal.returns-then-fields-ne2
returns-then-fields-ne2 c = sym (other-parts c.args.fields.now c.if-fields-ne2.true)
