pub mod Making
pub mod Walked
pub mod Calls
pub mod Lists
pub mod Programs
