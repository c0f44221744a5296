use Rattle.std.proofs.Common.{◌∙◌, rules, tests}
use Rattle.std.proofs.lemmas.Iterator.{YieldsList-from_slice}
use Rattle.std.proofs.lemmas.Iterator.Search.{any_from_yields_List}
use Rattle.es_tree.specs.Views.{plain_field}
use Rattle.es_rest_shapes.specs.RestShapes.{any_child_by}
use Rattle.es_rest_nodes.proofs.RestTests.{any-fields}
use Rattle.es_unsupported.specs.Shapes.{is_rest_parameter}
use Rattle.es_unsupported.proofs.stray_rests.any_parameter.Goals as goal

pub returns : goal.returns
returns c = any_from_yields_List (λ f. any_child_by is_rest_parameter (plain_field f)) _ _ _ c.any.ensures.ran (YieldsList-from_slice c.args.fields.now cc) (λ x b q k. search (rules, tests)) ∙ any-fields is_rest_parameter c.args.fields.now
