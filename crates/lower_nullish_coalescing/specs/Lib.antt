pub mod Coalescings
pub mod Profile
pub mod Lawful
