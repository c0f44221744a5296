use Rattle.es_tree.specs.Fresh.{is_among}
use Rattle.es_scope.specs.Contexts.{made_of}
use Rattle.lower_constructor_this.proofs.Taken.{other-declarations}
use Rattle.lower_constructor_this.proofs.declarations.name_in_declarations.Goals as goal

pub returns-then-fields-ne1 : goal.returns-then-fields-ne1
returns-then-fields-ne1 g c = other-declarations (is_among (made_of c.args.ctx.now)) c.args.fields.now c.if-fields-ne1.true
