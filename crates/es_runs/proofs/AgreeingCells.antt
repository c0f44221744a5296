-- What two states that agree say of a cell.
use Rattle.std.proofs.Common.{◌≡◌}
use Rattle.std.specs.Prelude.{true}
use Rattle.es_tree.specs.Words.{Text}
use Rattle.es_runs.specs.Alike.{Frame, Agree}
use Rattle.es_runs.specs.Alike.Agree.{agree}
use Rattle.es_runs.specs.Machine.{State}
use Rattle.es_runs.specs.Runs.{cells}

pub agree_fits : (F : Frame) {s t : State} → Agree F s t → (x : Text) → F.hidden x ≡ true → F.fits (cells s) x (cells t x)
agree_fits F (agree h g f) = g
