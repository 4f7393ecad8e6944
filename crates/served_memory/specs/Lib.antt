pub mod Closing
pub mod World
pub mod Laws
pub mod Fitting
pub mod Standing
pub mod Racing
