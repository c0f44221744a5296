pub mod Lowered
pub mod Moved
pub mod Set
pub mod Used
