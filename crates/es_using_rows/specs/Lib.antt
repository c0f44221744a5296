pub mod UsingPlaces
pub mod Used
pub mod UsingRows
pub mod Laws
