-- What is written of a program is what steps reach from it but for ids and marks, which mean nothing.
use Rattle.std.proofs.Common.{◌≡◌, refl, Bool, true, false}
use Rattle.std.specs.Prelude.{◌||◌, if◌then◌else◌}
use Rattle.es_steps.proofs.BridgeInclusion.{all_under}
use Rattle.es_reached.specs.Reached.{built_rules}
use Rattle.es_statement_runs.specs.Helpers.Supply.{no_helpers, spread_by_global, by_global}
use Rattle.es_statement_steps.specs.Laws.{LawStatementResult, assignments_there, assumes_no_all, chains_there, powers_there, spreads_there, supply_there}
use Rattle.es_statement_steps.specs.Orders.{in_order}
use Rattle.es_statement_steps.proofs.StatementLaw.{law_statement_rules_proof}
use Rattle.es_statement_steps.proofs.BareRuns.{alike-seen, is_plain_supply}

plain-where : (b c : Bool) → is_plain_supply (if b then (if c then spread_by_global else by_global) else no_helpers) ≡ true
plain-where true true = refl
plain-where true false = refl
plain-where false c = refl

pub law_statement_result_proof : LawStatementResult
law_statement_result_proof o p q r names runs untagged lacks reached written =
    alike-seen (supply_there o p) (plain-where (spreads_there o p) (chains_there o p || (assignments_there o p || powers_there o p))) (assumes_no_all o p) p r p q refl written
    (law_statement_rules_proof o p r names runs.class untagged lacks runs.helpers (record { whole = reached.whole; steps = all_under (in_order o) (built_rules o) (λ n s x s' y h. h.0) reached.steps; made = reached.made }) (λ both. reached))
