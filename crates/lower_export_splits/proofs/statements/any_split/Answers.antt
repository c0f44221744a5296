use Rattle.std.proofs.Common.{◌∙◌, rules, tests}
use Rattle.std.proofs.lemmas.Iterator.{YieldsList-from_slice}
use Rattle.std.proofs.lemmas.Iterator.Search.{any_from_yields_List}
use Rattle.es_export_splits.specs.Splits.{is_split}
use Rattle.lower_export_splits.proofs.Lists.{any-split}
use Rattle.lower_export_splits.proofs.statements.any_split.Goals as goal

pub returns : goal.returns
returns c = any_from_yields_List is_split _ _ _ c.any.ensures.ran (YieldsList-from_slice c.args.statements.now cc) (λ x b q k. search (rules, tests)) ∙ any-split c.args.statements.now
