pub mod Held
pub mod Readings
pub mod BareNames
pub mod RuleKinds
pub mod HeldSteps
pub mod ProgramLists
pub mod ProgramSteps
pub mod Examples
