pub mod RestRows
pub mod RestParts
pub mod Laws
