pub mod AsBox
pub mod Crossing
pub mod Making
pub mod Holder
pub mod Lending
pub mod OneByOne
mod Runs
pub mod TakingOut
