use Rattle.std.proofs.Common.{◌∙◌, rules, tests}
use Rattle.std.proofs.lemmas.Iterator.{YieldsList-from_slice}
use Rattle.std.proofs.lemmas.Iterator.Search.{all_from_yields_List}
use Rattle.lower_using.proofs.PlaceTests.{all-used, passes}
use Rattle.lower_using.proofs.places.are_used.Goals as goal

pub returns : goal.returns
returns c =
    all_from_yields_List passes _ _ _ c.all.ensures.ran (YieldsList-from_slice c.args.statements.now cc) (λ x b q k. search (rules, tests)) ∙ all-used c.args.statements.now
