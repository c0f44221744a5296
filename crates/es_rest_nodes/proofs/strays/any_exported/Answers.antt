use Rattle.std.proofs.Common.{◌∙◌, rules, tests}
use Rattle.std.proofs.lemmas.Iterator.{YieldsList-from_slice}
use Rattle.std.proofs.lemmas.Iterator.Search.{any_from_yields_List}
use Rattle.es_tree.specs.Views.{plain_field}
use Rattle.es_rest_shapes.specs.RestShapes.{any_child_by}
use Rattle.es_rest_nodes.specs.RestFields.{is_exported_rest}
use Rattle.es_rest_nodes.proofs.RestTests.{any-fields}
use Rattle.es_rest_nodes.proofs.strays.any_exported.Goals as goal

pub returns : goal.returns
returns c = any_from_yields_List (λ f. any_child_by is_exported_rest (plain_field f)) _ _ _ c.any.ensures.ran (YieldsList-from_slice c.args.fields.now cc) (λ x b q k. search (rules, tests)) ∙ any-fields is_exported_rest c.args.fields.now
