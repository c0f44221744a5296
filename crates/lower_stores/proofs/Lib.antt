pub mod InsertionLemmas
pub mod WovenLemmas
pub mod TopLevelLemmas
pub mod ImportLemmas
pub mod HelperLemmas
