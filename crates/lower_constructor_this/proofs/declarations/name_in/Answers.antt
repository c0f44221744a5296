use Rattle.es_tree.specs.Fresh.{is_among}
use Rattle.es_scope.specs.Contexts.{made_of}
use Rattle.lower_constructor_this.proofs.Taken.{other-parts}
use Rattle.lower_constructor_this.proofs.declarations.name_in.Goals as goal

pub returns-then-fields-ne2 : goal.returns-then-fields-ne2
returns-then-fields-ne2 g c = other-parts (is_among (made_of c.args.ctx.now)) c.args.fields.now c.if-fields-ne2.true
