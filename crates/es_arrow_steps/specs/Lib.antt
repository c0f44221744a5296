pub mod ArrowWalks
pub mod ThisFits
