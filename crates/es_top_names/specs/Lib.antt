pub mod TopNames
