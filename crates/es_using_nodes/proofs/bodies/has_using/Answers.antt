use Rattle.std.proofs.Common.{◌∙◌, rules, tests}
use Rattle.std.proofs.lemmas.Iterator.{YieldsList-from_slice}
use Rattle.std.proofs.lemmas.Iterator.Search.{any_from_yields_List}
use Rattle.es_steps.specs.UsingBlocks.{is_using_node}
use Rattle.es_using_nodes.proofs.EnterTests.{any-using}
use Rattle.es_using_nodes.proofs.bodies.has_using.Goals as goal

pub returns : goal.returns
returns c =
    any_from_yields_List is_using_node _ _ _ c.any.ensures.ran (YieldsList-from_slice c.args.statements.now cc) (λ x b q k. search (rules, tests)) ∙ any-using c.args.statements.now
