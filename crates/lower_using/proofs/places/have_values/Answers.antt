use Rattle.std.proofs.Common.{◌∙◌, rules, tests}
use Rattle.std.proofs.lemmas.Iterator.{YieldsList-from_slice}
use Rattle.std.proofs.lemmas.Iterator.Search.{all_from_yields_List}
use Rattle.es_using_rows.specs.UsingPlaces.{has_value}
use Rattle.lower_using.proofs.PlaceTests.{all-values}
use Rattle.lower_using.proofs.places.have_values.Goals as goal

pub returns : goal.returns
returns c =
    all_from_yields_List has_value _ _ _ c.all.ensures.ran (YieldsList-from_slice c.args.declarators.now cc) (λ x b q k. search (rules, tests)) ∙ all-values c.args.declarators.now
