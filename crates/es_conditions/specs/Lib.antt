pub mod CoreConditions
pub mod Laws
