use Rattle.std.proofs.Common.{◌∙◌, rules, tests}
use Rattle.std.proofs.lemmas.Iterator.{YieldsList-from_slice}
use Rattle.std.proofs.lemmas.Iterator.Search.{any_from_yields_List}
use Rattle.es_using_rows.specs.UsingPlaces.{var_at_top}
use Rattle.es_rest_nodes.proofs.RestTests.{any-list}
use Rattle.es_using_nodes.proofs.entering.any_var_at_top.Goals as goal

pub returns : goal.returns
returns c =
    any_from_yields_List (var_at_top c.args.name.now) _ _ _ c.any.ensures.ran (YieldsList-from_slice c.args.statements.now cc) (λ x b q k. search (rules, tests)) ∙ any-list (var_at_top c.args.name.now) c.args.statements.now
