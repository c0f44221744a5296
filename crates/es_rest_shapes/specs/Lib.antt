pub mod RestShapes
pub mod HelperNames
pub mod Laws
