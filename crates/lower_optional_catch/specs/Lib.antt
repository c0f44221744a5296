pub mod Catches
pub mod Profile
pub mod Lawful
