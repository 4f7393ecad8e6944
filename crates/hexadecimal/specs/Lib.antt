pub mod Spelling
pub mod Fields
