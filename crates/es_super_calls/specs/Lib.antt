pub mod SuperCalls
pub mod Constructors
