pub mod TopImports
pub mod Laws
