pub mod Weaving
pub mod Showing
