use Rattle.std.proofs.Common.{◌∙◌, rules, tests}
use Rattle.std.proofs.lemmas.Iterator.{YieldsList-from_slice}
use Rattle.std.proofs.lemmas.Iterator.Search.{any_from_yields_List}
use Rattle.es_rest_shapes.specs.RestShapes.{bears_rest}
use Rattle.es_rest_nodes.proofs.RestTests.{any-list}
use Rattle.es_rest_nodes.proofs.strays.any_bearing.Goals as goal

pub returns : goal.returns
returns c = any_from_yields_List bears_rest _ _ _ c.any.ensures.ran (YieldsList-from_slice c.args.nodes.now cc) (λ x b q k. search (rules, tests)) ∙ any-list bears_rest c.args.nodes.now
