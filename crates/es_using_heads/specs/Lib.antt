pub mod Heads
pub mod HeadRows
pub mod Laws
