pub mod ToldTrees
pub mod SharedNames
pub mod SharedTrees
pub mod CountedNames
pub mod ConstantNames
pub mod ConstantTops
pub mod SharedPrograms
