pub mod BodyFields
pub mod Clashes
pub mod HeadFields
