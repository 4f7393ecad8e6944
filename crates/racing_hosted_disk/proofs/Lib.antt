pub mod Going
pub mod Looks
pub mod Finding
pub mod Landing
pub mod Telling
pub mod Standing
