pub mod Configs
pub mod Holding
pub mod Lengths
pub mod Outlets
pub mod Telling
pub mod Windows
mod Writing
mod Frames
