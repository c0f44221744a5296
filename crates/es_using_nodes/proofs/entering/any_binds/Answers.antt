use Rattle.std.proofs.Common.{◌∙◌, rules, tests}
use Rattle.std.proofs.lemmas.Iterator.{YieldsList-from_slice}
use Rattle.std.proofs.lemmas.Iterator.Search.{any_from_yields_List}
use Rattle.es_rest_rows.specs.RestRows.{binds_name}
use Rattle.es_rest_nodes.proofs.RestTests.{any-list}
use Rattle.es_using_nodes.proofs.entering.any_binds.Goals as goal

pub returns : goal.returns
returns c =
    any_from_yields_List (binds_name c.args.name.now) _ _ _ c.any.ensures.ran (YieldsList-from_slice c.args.parameters.now cc) (λ x b q k. search (rules, tests)) ∙ any-list (binds_name c.args.name.now) c.args.parameters.now
