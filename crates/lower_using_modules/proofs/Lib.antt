pub mod Statements
pub mod PartedLists
pub mod Fields
pub mod ModuleNames
pub mod Programs
