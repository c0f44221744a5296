pub mod MoveShapes
pub mod MoveTests
pub mod StandingNames
