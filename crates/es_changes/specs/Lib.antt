pub mod Moments
pub mod Fits
pub mod Changes
pub mod Rules
pub mod Conditions
pub mod Laws
