pub mod AskedNames
pub mod MoveFields
