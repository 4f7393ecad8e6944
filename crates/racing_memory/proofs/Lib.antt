pub mod Seeing
pub mod Places
pub mod Marks
pub mod Changing
pub mod Undisturbed
