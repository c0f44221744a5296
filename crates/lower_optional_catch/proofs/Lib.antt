pub mod BareClauses
pub mod Hook
