pub mod FreshHeads
pub mod Parts
