pub mod SeenParts
pub mod TargetParts
pub mod Rows
pub mod Form
pub mod Hook
