pub mod ConstructorThis
pub mod Examples
