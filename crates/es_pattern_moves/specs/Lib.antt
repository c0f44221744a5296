pub mod PatternMoves
pub mod MoveRows
pub mod Weights
pub mod Moved
pub mod Laws
