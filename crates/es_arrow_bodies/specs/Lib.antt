pub mod ArrowBodies
pub mod Laws
pub mod Examples
