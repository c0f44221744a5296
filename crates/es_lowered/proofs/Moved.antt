-- Steps of the rows by which patterns move.
use Rattle.std.proofs.Common.{◌≡◌, inr}
use Rattle.std.specs.Prelude.{true, is_some}
use Rattle.es_tree.specs.declared.options.EnvOptions.{EnvOptions}
use Rattle.es_steps.specs.Laws.{BindingsKeep}
use Rattle.es_steps.specs.Steps.{Ledger, Site, Spot}
use Rattle.es_steps.proofs.BridgeInclusion.{all_under}
use Rattle.es_arrow_bodies.specs.ArrowBodies.{WithBodies}
use Rattle.es_arrow_bodies.proofs.BodyPrograms.{law_body_bindings_proof, law_body_form_proof, law_body_outside_proof, law_body_rules_proof}
use Rattle.es_pattern_moves.specs.MoveRows.{MoveRow}
use Rattle.es_pattern_moves.proofs.MovedLaws.{law_moved_steps_proof}
use Rattle.es_pattern_moves.proofs.RowsAmongMoves.{law_move_rows_proof}
use Rattle.es_valid_rests.specs.Laws.{with_rests}
use Rattle.es_lowered.specs.Moved.{LawMoved, LawUnmoved, moved_rules}
use Rattle.es_lowered.proofs.Kept.{result-by}
use Rattle.es_lowered.proofs.Lowered.{where-asked}
use Rattle.es_lowered.proofs.Stays.{stays-as}

among-bodies : (n : Site) (s : Ledger) (x : Spot) (s' : Ledger) (y : Spot) → MoveRow n s x s' y → WithBodies n s x s' y
among-bodies n s x s' y r = law_move_rows_proof n s s' x y r

among-rules : (o : EnvOptions) → is_some o.es2018.object_rest_spread ≡ true → (n : Site) (s : Ledger) (x : Spot) (s' : Ledger) (y : Spot) → MoveRow n s x s' y → with_rests WithBodies o n s x s' y
among-rules o on n s x s' y r = inr (where-asked (is_some o.es2018.object_rest_spread) WithBodies n s x s' y on (among-bodies n s x s' y r))

keep-bindings : BindingsKeep MoveRow
keep-bindings p q w w' kind bound steps = law_body_bindings_proof p q w w' kind bound (all_under MoveRow WithBodies among-bodies steps)

pub law_moved_proof : LawMoved
law_moved_proof o p q names form right on moves =
    let found = law_moved_steps_proof p q names form right moves in
    result-by MoveRow (with_rests WithBodies o) (among-rules o on) keep-bindings (law_body_form_proof o) (law_body_rules_proof o) (law_body_outside_proof o) p q found.0 names found.1 form right found.2 found.3 found.4

pub law_unmoved_proof : LawUnmoved
law_unmoved_proof on = stays-as (moved_rules on)
