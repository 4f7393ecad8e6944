pub mod Rings
pub mod Staying
pub mod Sizes
pub mod Standing
pub mod LeftAlone
pub mod Fitting
