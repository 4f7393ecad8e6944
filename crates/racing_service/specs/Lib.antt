pub mod Queue
pub mod Service
pub mod Sink
pub mod Laws
pub mod LeftAlone
pub mod Flights
pub mod Lasting
