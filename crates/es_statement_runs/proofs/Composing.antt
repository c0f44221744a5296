-- Runs alike compose.
use Rattle.std.proofs.Common.{sym, ◌∙◌, ap}
use Rattle.es_runs.specs.Machine.{is_set}
use Rattle.es_runs.specs.Runs.{is_declared}
use Rattle.es_statement_runs.specs.Names.{declared_at_top}
use Rattle.es_statement_runs.specs.Runs.{run, SameRun}
use Rattle.es_statement_runs.specs.Laws.{LawThen}

pub law_then_proof : LawThen
law_then_proof u no_all p q r h g more n this moves assumed t ms inside =
    let first : SameRun (is_declared (declared_at_top p)) (run u n p this moves) (run u n q this moves) = h n this moves assumed t ms inside in
    let second : SameRun (is_declared (declared_at_top q)) (run u n q this moves) (run u n r this moves) = g n this moves assumed t ms (λ k. inside (sym first.outcomes ∙ k)) in
    record {
      outcomes = second.outcomes ∙ first.outcomes;
      questions = second.questions ∙ first.questions;
      final_cells = λ y e i. second.final_cells y (more y e) (ap is_set (first.final_cells y e i) ∙ i) ∙ first.final_cells y e i;
    }
