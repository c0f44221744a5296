pub mod Names
pub mod Moving
pub mod Lists
pub mod MovedNodes
pub mod Shapes
pub mod MovedParameters
pub mod MovedBlocks
