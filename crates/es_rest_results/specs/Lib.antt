pub mod Laws
pub mod Others
