pub mod Removed
pub mod Left
