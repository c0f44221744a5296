pub mod Slots
pub mod Lists
pub mod Wrapping
pub mod Writing
pub mod Lawful
