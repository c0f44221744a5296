-- Runs where the helper of object spread is the only one, computed: a literal and what it is lowered to ask the same, and another helper is a member like any.
use Rattle.std.proofs.Common.{◌≡◌, refl, [], ◌∷◌}
use Rattle.std.specs.Prelude.{codes}
use Rattle.es_tree.specs.Tree.{empty, ◌before◌}
use Rattle.es_runs.specs.Machine.Move.{answer}
use Rattle.es_runs.specs.Machine.Question.{call, get, read}
use Rattle.es_runs.specs.Machine.Value.{text, undefined}
use Rattle.es_runs.specs.Machine.Values.{none, ◌and◌}
use Rattle.es_statement_runs.specs.Helpers.Supply.{spread_by_global}
use Rattle.es_statement_runs.specs.Runs.{run}
use Rattle.es_statement_runs.proofs.Examples.{a_host, four_moves, helper_of, questions, script, spread_asks, spread_lowered, spread_source, statement, x_}

source_asks : questions (run spread_by_global 0 spread_source undefined four_moves) ≡ spread_asks
source_asks = refl

lowered_asks : questions (run spread_by_global 0 spread_lowered undefined four_moves) ≡ spread_asks
lowered_asks = refl

-- `babelHelpers.extends(b)`
other_asks : questions (run spread_by_global 0 (script (statement (helper_of (codes "extends") (x_ (codes "b") before empty)) before empty)) undefined (answer (a_host 1) ∷ answer (a_host 2) ∷ answer (a_host 3) ∷ answer (a_host 4) ∷ [])) ≡
    call (a_host 2) (a_host 1) (a_host 3 and none) ∷ read (codes "b") ∷ get (a_host 1) (text (codes "extends")) ∷ read (codes "babelHelpers") ∷ []
other_asks = refl
