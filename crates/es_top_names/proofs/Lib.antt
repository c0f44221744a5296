pub mod RequireFree
pub mod RootRules
pub mod RootSteps
pub mod SameSort
pub mod SourceList
