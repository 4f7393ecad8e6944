pub mod Device
pub mod Storing
pub mod Output
