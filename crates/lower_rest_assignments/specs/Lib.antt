pub mod Assignments
pub mod Unused
pub mod Stored
pub mod Groups
pub mod Rows
pub mod Profile
pub mod Lawful
