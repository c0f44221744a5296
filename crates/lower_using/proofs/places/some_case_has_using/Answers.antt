use Rattle.std.proofs.Common.{◌∙◌, rules, tests}
use Rattle.std.proofs.lemmas.Iterator.{YieldsList-from_slice}
use Rattle.std.proofs.lemmas.Iterator.Search.{any_from_yields_List}
use Rattle.es_steps.specs.UsingSwitches.{case_has_using}
use Rattle.lower_using.proofs.PlaceTests.{any-case}
use Rattle.lower_using.proofs.places.some_case_has_using.Goals as goal

pub returns : goal.returns
returns c =
    any_from_yields_List case_has_using _ _ _ c.any.ensures.ran (YieldsList-from_slice c.args.cases.now cc) (λ x b q k. search (rules, tests)) ∙ any-case c.args.cases.now
