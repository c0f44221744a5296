use Rattle.std.proofs.Common.{◌∙◌, ap, sym}
use Rattle.es_tree.specs.Tree.{kind_of}
use Rattle.lower_pattern_moves.proofs.Shapes.{body-opens}
use Rattle.lower_pattern_moves.proofs.parameters.declare_first.Goals as goal

pub put_first-requires : goal.put_first-requires
put_first-requires c = body-opens c.requires.0 c.args.body (sym (ap kind_of c.body.view_is) ∙ (sym c.ast_type.ensures ∙ c.in-FunctionBody.is)) c.requires.1
