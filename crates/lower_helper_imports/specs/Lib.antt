pub mod Parts
pub mod HelperImports
