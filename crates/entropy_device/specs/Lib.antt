pub mod Device
pub mod Pool
pub mod Waiting
