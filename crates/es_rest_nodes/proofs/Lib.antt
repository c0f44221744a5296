pub mod RestTests
