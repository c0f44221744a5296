pub mod ModuleTops
pub mod TopRule
pub mod Laws
