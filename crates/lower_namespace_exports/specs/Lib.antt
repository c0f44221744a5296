pub mod Exports
pub mod Lowered
pub mod Profile
pub mod Lawful
pub mod Apart
