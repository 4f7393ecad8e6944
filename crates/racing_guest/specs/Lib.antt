pub mod Reply
pub mod Block
pub mod Console
pub mod Guest
pub mod Place
pub mod Memory
