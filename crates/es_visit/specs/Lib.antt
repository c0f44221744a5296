pub mod Hooks
pub mod Counts
pub mod Calls
