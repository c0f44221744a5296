pub mod Starts
pub mod Contexts
