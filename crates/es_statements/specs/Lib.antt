pub mod ProgramArity
pub mod ProgramPlain
pub mod LoopsArity
pub mod LoopsPlain
pub mod ControlArity
pub mod ControlPlain
pub mod FunctionsArity
pub mod FunctionsPlain
