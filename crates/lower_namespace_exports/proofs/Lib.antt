pub mod ExportParts
pub mod Shown
pub mod Formed
pub mod Rows
pub mod Weighed
pub mod Split
pub mod Hook
