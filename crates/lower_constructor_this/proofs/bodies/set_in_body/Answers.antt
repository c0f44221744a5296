use Rattle.std.proofs.Common.{arith}
use Rattle.std.proofs.lemmas.Result.{on_ok_weaker}
use Rattle.es_tree.specs.Fresh.{is_among}
use Rattle.es_scope.specs.Contexts.{made_of}
use Rattle.lower_constructor_this.proofs.Settings.{other-fields, set-second}
use Rattle.lower_constructor_this.proofs.bodies.set_in_body.Goals as goal

pub returns-then-len-ne2 : goal.returns-then-len-ne2
returns-then-len-ne2 g c = other-fields (is_among (made_of c.args.ctx.now)) c.args.fields.now.items (λ e. c.if-len-ne2.true (omega (arith, c.len.ensures, c.args.fields.now.ok.0, e)))

pub returns-in-Statements : goal.returns-in-Statements
returns-in-Statements g c =
    on_ok_weaker c.set_statements.result
    (λ h. set-second (is_among (made_of c.args.ctx.now)) c.args.fields.now.items c.index_mut.result.now c.in-Statements.statements c.set_statements.new.statements (omega (arith, c.len.ensures, c.args.fields.now.ok.0, c.if-len-ne2.false)) c.index_mut.ensures.value c.in-Statements.is h)
    c.set_statements.ensures
