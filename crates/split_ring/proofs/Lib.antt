pub mod Sizes
pub mod Outcomes
pub mod Passing
mod Landing
mod Masks
pub mod Using
