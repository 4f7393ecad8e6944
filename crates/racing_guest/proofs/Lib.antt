pub mod Making
pub mod Holding
pub mod Telling
pub mod Transmitting
pub mod Routing
pub mod Fitting
