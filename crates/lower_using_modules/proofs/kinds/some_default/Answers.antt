use Rattle.std.proofs.Common.{◌∙◌, rules, tests}
use Rattle.std.proofs.lemmas.Iterator.{YieldsList-from_slice}
use Rattle.std.proofs.lemmas.Iterator.Search.{any_from_yields_List}
use Rattle.es_using_modules.specs.ModuleTops.{is_named_default}
use Rattle.lower_using_modules.proofs.PartedLists.{any-default}
use Rattle.lower_using_modules.proofs.kinds.some_default.Goals as goal

pub returns : goal.returns
returns c = any_from_yields_List is_named_default _ _ _ c.any.ensures.ran (YieldsList-from_slice c.args.statements.now cc) (λ x b q k. search (rules, tests)) ∙ any-default c.args.statements.now
