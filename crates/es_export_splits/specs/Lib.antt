pub mod Splits
pub mod SplitRule
pub mod Laws
