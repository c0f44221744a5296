pub mod Stores
pub mod HelperNodes
pub mod ImportNodes
pub mod Loading
pub mod RequireNodes
