pub mod RowsInside
pub mod FormedRows
pub mod HelperSites
pub mod WalkSteps
