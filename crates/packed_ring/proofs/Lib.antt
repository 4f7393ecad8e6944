pub mod Positions
pub mod Passing
pub mod Outcomes
mod Landing
mod Using
