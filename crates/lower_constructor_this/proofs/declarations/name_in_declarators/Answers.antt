use Rattle.es_tree.specs.Fresh.{is_among}
use Rattle.es_scope.specs.Contexts.{made_of}
use Rattle.lower_constructor_this.proofs.Taken.{other-declarators}
use Rattle.lower_constructor_this.proofs.declarations.name_in_declarators.Goals as goal

pub returns-then-declarators-ne1 : goal.returns-then-declarators-ne1
returns-then-declarators-ne1 g c = other-declarators (is_among (made_of c.args.ctx.now)) c.args.declarators.now c.if-declarators-ne1.true
