-- The rules of `using` together: they keep the rules of declared names, and what is read from outside.
use Rattle.es_steps.specs.AllRules.{UsingRule}
use Rattle.es_valid_using.proofs.UsingNamesBlocks.{block-moves}
use Rattle.es_valid_using.proofs.UsingNamesBodies.{body-moves}
use Rattle.es_valid_using.proofs.UsingNamesHeads.{head-moves}
use Rattle.es_valid_using.proofs.UsingNamesLoops.{loop-moves}
use Rattle.es_valid_using.proofs.UsingNamesSteps.{MovesLawful, both-moves}
use Rattle.es_valid_using.proofs.UsingNamesSwitches.{switch-moves}
use Rattle.es_valid_using.proofs.UsingOutside.{HoldsLawful}
use Rattle.es_valid_using.proofs.UsingOutsideRules.{block-holds, body-holds, both-hold, head-holds, loop-holds, switch-holds}

pub all-moves : MovesLawful UsingRule
all-moves = both-moves block-moves (both-moves body-moves (both-moves loop-moves (both-moves switch-moves head-moves)))

pub all-hold : HoldsLawful UsingRule
all-hold = both-hold block-holds (both-hold body-holds (both-hold loop-holds (both-hold switch-holds head-holds)))
