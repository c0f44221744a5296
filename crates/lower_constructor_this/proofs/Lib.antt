pub mod Walked
pub mod Told
pub mod Taken
pub mod Settings
pub mod CallStatements
pub mod Passed
pub mod NamePlaces
