use Rattle.std.proofs.Common.{ap, sym, Some, reverse, List, [], ◌∷◌}
use Rattle.es_json.specs.declared.error.Step.{Step}
use Rattle.es_json.proofs.error.fault_at.Goals as goal

pub returns : goal.returns
returns c = c.under.ensures ([] ∷ []) (ap (λ (steps : List Step). Some (reverse steps)) (sym c.new.ensures.items))
