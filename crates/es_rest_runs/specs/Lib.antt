pub mod Changing
pub mod Growth
pub mod Laws
pub mod Quiet
pub mod Tests
