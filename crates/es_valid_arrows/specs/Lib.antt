pub mod ArrowPlaces
pub mod Laws
pub mod Examples
