use Rattle.es_conditions.proofs.Assigning.{assignment-keeps}
use Rattle.es_conditions.proofs.ChainRows.{chaining-keeps}
use Rattle.es_conditions.proofs.Coalescing.{coalescing-keeps}
use Rattle.es_conditions.proofs.Copies.{spread-keeps}
use Rattle.es_conditions.proofs.Powers.{power-keeps}
use Rattle.es_conditions.proofs.RestAssigning.{rest-assignment-keeps}
use Rattle.es_conditions.proofs.law_rows.Goals as goal

pub returns : goal.returns
returns c o = record { logical_assignment = assignment-keeps o; nullish_coalescing = coalescing-keeps o; optional_chaining = chaining-keeps o; exponentiation = power-keeps o; object_spread = spread-keeps o; rest_assignment = rest-assignment-keeps o }
