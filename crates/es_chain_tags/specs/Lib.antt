pub mod ChainTags
