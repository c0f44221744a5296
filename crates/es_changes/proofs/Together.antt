-- Two lawful rules together are one, as lowerings are that stand together.
use Rattle.es_steps.specs.Rules.{either_rule}
use Rattle.es_steps.specs.Steps.{Ledger, Site, Spot}
use Rattle.es_steps.proofs.FormRules.{both-form}
use Rattle.es_steps.proofs.LocalRules.{both-local}
use Rattle.es_steps.proofs.Taken.{both-lawful, both-write}
use Rattle.es_changes.specs.Rules.{IsLawfulRule, is_asked_for}

pub together : (Q R : Site → Ledger → Spot → Ledger → Spot → Type 0) → IsLawfulRule Q → IsLawfulRule R → IsLawfulRule (either_rule Q R)
together Q R q r = record { names = both-lawful q.names r.names; writes = both-write q.writes r.writes; form = both-form q.form r.form; local = both-local (λ s. is_asked_for) q.local r.local }
