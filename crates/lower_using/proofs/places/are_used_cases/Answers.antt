use Rattle.std.proofs.Common.{◌∙◌, rules, tests}
use Rattle.std.proofs.lemmas.Iterator.{YieldsList-from_slice}
use Rattle.std.proofs.lemmas.Iterator.Search.{all_from_yields_List}
use Rattle.es_using_rows.specs.UsingPlaces.{is_used_case}
use Rattle.lower_using.proofs.PlaceTests.{all-cases}
use Rattle.lower_using.proofs.places.are_used_cases.Goals as goal

pub returns : goal.returns
returns c =
    all_from_yields_List is_used_case _ _ _ c.all.ensures.ran (YieldsList-from_slice c.args.cases.now cc) (λ x b q k. search (rules, tests)) ∙ all-cases c.args.cases.now
