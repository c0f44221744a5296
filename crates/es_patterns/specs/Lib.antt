pub mod PatternsArity
pub mod PatternsPlain
pub mod ModulesArity
pub mod ModulesPlain
