pub mod ExcludedKeys
pub mod Laws
