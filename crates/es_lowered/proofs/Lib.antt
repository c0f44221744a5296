pub mod Idle
pub mod Kept
pub mod Lowered
pub mod Moved
pub mod Set
pub mod Stays
pub mod Used
