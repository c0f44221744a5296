pub mod Names
pub mod HeadWalks
pub mod HeadShapes
pub mod MovedHeads
