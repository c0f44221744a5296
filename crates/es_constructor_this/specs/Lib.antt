pub mod SetRows
pub mod Laws
