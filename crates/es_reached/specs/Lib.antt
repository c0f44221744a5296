pub mod BareTrees
pub mod NoRests
pub mod Reached
pub mod Unmade
pub mod Walks
