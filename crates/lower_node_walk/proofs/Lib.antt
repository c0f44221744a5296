pub mod Inward
pub mod Rules
pub mod Fields
pub mod Loops
pub mod Nodes
pub mod Costs
pub mod Seen
pub mod Programs
