pub mod Assignments
pub mod Targets
pub mod Profile
pub mod Lawful
