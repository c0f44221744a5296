pub mod CalledRoles
pub mod PlainTrees
pub mod CalledFrames
pub mod CalledNames
pub mod CallNames
