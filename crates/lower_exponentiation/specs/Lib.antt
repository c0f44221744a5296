pub mod Exponentiations
pub mod Targets
pub mod Profile
pub mod Lawful
