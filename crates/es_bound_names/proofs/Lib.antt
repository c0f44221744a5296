pub mod Declaring
pub mod FieldsInTurn
