use Rattle.std.proofs.Common.{◌∙◌, rules, tests}
use Rattle.std.proofs.lemmas.Iterator.{YieldsList-from_slice}
use Rattle.std.proofs.lemmas.Iterator.Search.{any_from_yields_List}
use Rattle.es_rest_nodes.proofs.RestTests.{any-list}
use Rattle.es_unsupported.specs.Shapes.{is_rest_parameter}
use Rattle.es_unsupported.proofs.stray_rests.any_parameter_node.Goals as goal

pub returns : goal.returns
returns c = any_from_yields_List is_rest_parameter _ _ _ c.any.ensures.ran (YieldsList-from_slice c.args.nodes.now cc) (λ x b q k. search (rules, tests)) ∙ any-list is_rest_parameter c.args.nodes.now
