use Rattle.std.proofs.Common.{arith, sym}
use Rattle.es_rest_shapes.specs.RestShapes.{any_tree}
use Rattle.lower_object_rest.specs.Shapes.{is_lowerable}
use Rattle.es_rest_nodes.proofs.RestTests.{more-lists}
use Rattle.lower_object_rest.proofs.patterns.has_lowerable.Goals as goal

pub returns-in_default-3 : goal.returns-in_default-3
returns-in_default-3 c = sym (more-lists (any_tree is_lowerable) c.args.fields.now (omega (arith, c.in_default.len_at_least)))
