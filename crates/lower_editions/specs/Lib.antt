pub mod ApartTogether
pub mod Editions
pub mod Apart
pub mod Warnings
pub mod WarningWalk
