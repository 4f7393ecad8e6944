pub mod Sightings
pub mod Bytes
