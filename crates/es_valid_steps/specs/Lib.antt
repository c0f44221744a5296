pub mod PlaceRules
pub mod ArrowNodes
pub mod Laws
