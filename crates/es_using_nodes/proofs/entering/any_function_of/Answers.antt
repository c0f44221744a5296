use Rattle.std.proofs.Common.{◌∙◌, rules, tests}
use Rattle.std.proofs.lemmas.Iterator.{YieldsList-from_slice}
use Rattle.std.proofs.lemmas.Iterator.Search.{any_from_yields_List}
use Rattle.es_using_rows.specs.UsingPlaces.{is_function_of}
use Rattle.es_rest_nodes.proofs.RestTests.{any-list}
use Rattle.es_using_nodes.proofs.entering.any_function_of.Goals as goal

pub returns : goal.returns
returns c =
    any_from_yields_List (is_function_of c.args.name.now) _ _ _ c.any.ensures.ran (YieldsList-from_slice c.args.statements.now cc) (λ x b q k. search (rules, tests)) ∙ any-list (is_function_of c.args.name.now) c.args.statements.now
