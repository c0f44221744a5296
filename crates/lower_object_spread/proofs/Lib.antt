pub mod Literals
pub mod Copying
pub mod Rows
pub mod Hook
