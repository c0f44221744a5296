pub mod ChainMarks
pub mod ChainPlaces
pub mod FirstFits
pub mod FirstConditions
pub mod FirstTable
pub mod FirstContext
pub mod BoundNames
