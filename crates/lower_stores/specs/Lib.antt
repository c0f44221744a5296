pub mod Insertions
pub mod BareInsertions
pub mod TopLevel
pub mod Imports
pub mod PlainImports
pub mod LoadedHelpers
pub mod PlainHelpers
