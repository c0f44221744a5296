pub mod BodyBindings
pub mod BodyForms
pub mod BodyPlaces
pub mod BodyReads
pub mod BodyNames
pub mod BodyPrograms
pub mod Examples
