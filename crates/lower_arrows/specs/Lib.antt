pub mod Lowered
pub mod Names
pub mod Functions
pub mod Walks
