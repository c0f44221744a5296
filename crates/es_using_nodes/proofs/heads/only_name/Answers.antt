use Rattle.std.proofs.Common.{sym}
use Rattle.es_using_nodes.proofs.HeadShapes.{other-declarators}
use Rattle.es_using_nodes.proofs.heads.only_name.Goals as goal

pub returns-then-declarators-ne1 : goal.returns-then-declarators-ne1
returns-then-declarators-ne1 c = sym (other-declarators c.args.declarators.now c.if-declarators-ne1.true)
