pub mod Modules
pub mod Examples
pub mod Laws
