pub mod Duplicated
pub mod Formed
pub mod Hook
pub mod Replaced
