pub mod Anys
pub mod FieldsAt
pub mod Firsts
pub mod Sums
