-- Each row is a step of the rules of object rests, one of those that move a pattern, or of that of bodies.
use Rattle.std.proofs.Common.{inl, inr}
use Rattle.es_steps.specs.Steps.{Ledger, Site, Spot}
use Rattle.es_arrow_bodies.specs.ArrowBodies.{WithBodies}
use Rattle.es_pattern_moves.specs.Laws.{LawMoveRows}
use Rattle.es_pattern_moves.specs.MoveRows.{MovesOut}

among : (n : Site) (s s' : Ledger) (x y : Spot) → MovesOut n s x s' y → WithBodies n s x s' y
among n s s' x y (inl h) = inl (inr (inr h))
among n s s' x y (inr h) = inr h

pub law_move_rows_proof : LawMoveRows
law_move_rows_proof n s s' x y h = among n s s' x y h.1
