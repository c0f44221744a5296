pub mod Outward
pub mod Parts
pub mod Bindings
pub mod Checks
