pub mod FieldCounts
pub mod BodyShapes
pub mod EnterTests
pub mod HeadShapes
