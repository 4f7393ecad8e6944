pub mod Coming
pub mod Rounds
pub mod Rings
pub mod Looking
pub mod Moving
pub mod Flights
pub mod LeftAlone
