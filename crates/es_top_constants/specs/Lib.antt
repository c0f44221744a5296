pub mod TopConstants
pub mod Laws
