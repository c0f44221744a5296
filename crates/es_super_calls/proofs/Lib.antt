pub mod CallTests
pub mod BareCalls
pub mod BareStandings
