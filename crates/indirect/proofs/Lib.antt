pub mod Walking
pub mod Entries
pub mod Outcomes
pub mod TableOutcomes
pub mod Listing
pub mod Totality
pub mod Beside
