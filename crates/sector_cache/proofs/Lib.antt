pub mod Coherence
pub mod Filed
pub mod Keeping
pub mod Sectors
pub mod Stops
