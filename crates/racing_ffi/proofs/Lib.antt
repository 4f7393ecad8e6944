pub mod Holding
pub mod InFlight
