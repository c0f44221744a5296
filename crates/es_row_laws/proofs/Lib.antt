pub mod Fewer
pub mod Lawful
pub mod Stable
