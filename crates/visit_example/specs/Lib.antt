pub mod Removals
pub mod Lawful
pub mod Moments
