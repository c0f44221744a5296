pub mod TextLists
pub mod EachNew
pub mod Constants
pub mod ConstantRules
pub mod ConstantsMore
