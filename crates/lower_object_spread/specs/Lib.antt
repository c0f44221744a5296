pub mod Literals
pub mod Copying
pub mod Profile
pub mod Lawful
