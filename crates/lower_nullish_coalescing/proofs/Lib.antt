pub mod Coalescings
pub mod Hook
pub mod Loads
pub mod Sides
