pub mod Children
pub mod NoneLeft
pub mod BareRests
pub mod Quiet
