pub mod HelperCalls
pub mod TextLists
pub mod CallRows
pub mod Importing
pub mod Laws
