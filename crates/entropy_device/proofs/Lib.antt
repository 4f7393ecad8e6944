pub mod Filling
pub mod Pool
pub mod Services
