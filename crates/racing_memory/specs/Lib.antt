pub mod Past
pub mod Words
