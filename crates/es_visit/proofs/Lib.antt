pub mod Sums
pub mod SoFar
pub mod Calls
pub mod FewHooks
