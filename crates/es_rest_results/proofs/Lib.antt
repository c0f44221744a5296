pub mod SoundTrees
pub mod SoundRows
pub mod MadeSources
pub mod RowsInRow
pub mod OtherRules
pub mod Results
