pub mod LoadingLemmas
pub mod ImportIds
