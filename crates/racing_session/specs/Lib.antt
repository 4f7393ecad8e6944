pub mod Due
pub mod Further
pub mod Judging
pub mod Answering
pub mod Session
pub mod Devices
pub mod Place
pub mod Memory
