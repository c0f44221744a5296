pub mod RestFields
