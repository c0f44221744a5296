pub mod RestRules
pub mod Laws
pub mod Examples
pub mod ExportExamples
