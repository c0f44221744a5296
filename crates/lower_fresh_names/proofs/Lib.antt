pub mod WrittenNames
pub mod Walks
pub mod Along
