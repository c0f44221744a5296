pub mod PlainExports
pub mod ListRuns
pub mod SplitTests
pub mod SplitNames
pub mod SplitClass
pub mod NoneSilent
pub mod SplitRuns
