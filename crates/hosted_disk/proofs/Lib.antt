pub mod Flights
pub mod Looking
pub mod One
pub mod Pieces
pub mod Told
pub mod Windows
