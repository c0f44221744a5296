-- What rows of object rests are made of: the single steps of their rules, which take one name or none, where so much is known of the place at which
-- a helper is called.
use Rattle.es_steps.specs.ObjectRest.{SplitRule, TakesRest}
use Rattle.es_steps.specs.Rules.{either_rule}
use Rattle.es_steps.specs.Steps.{Ledger, Site, Spot, the_program}
use Rattle.es_valid_rests.specs.RestRules.{Binding, Unexported}

-- a rest is taken as at the program itself, where names find nothing, and so much is known of the place
abbrev pub TakesWhere : (Site → Type 0) → Site → Ledger → Spot → Ledger → Spot → Type 0
TakesWhere asked n s x s' y = asked n × Binding TakesRest the_program s x s' y

-- Where `babelHelpers` is bound nowhere around, they are among the rules of object rests.
abbrev pub PartsWhere : (Site → Type 0) → Site → Ledger → Spot → Ledger → Spot → Type 0
PartsWhere asked = either_rule (Unexported (Binding SplitRule)) (TakesWhere asked)
