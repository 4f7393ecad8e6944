pub mod Past
pub mod Refusal
pub mod WriteBack
