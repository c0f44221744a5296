pub mod Ends
pub mod Job
pub mod Answer
pub mod Memory
pub mod Run
pub mod Refusals
pub mod Words
pub mod Generated
